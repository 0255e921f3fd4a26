pub mod Scan
pub mod FieldScan
pub mod LineScan
