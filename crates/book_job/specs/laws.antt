pub mod SameTable
