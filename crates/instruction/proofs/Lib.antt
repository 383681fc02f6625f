mod Lookup
pub mod Rows
