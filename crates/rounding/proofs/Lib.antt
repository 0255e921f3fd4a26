mod Sign
pub mod Natural
