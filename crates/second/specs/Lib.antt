pub mod Fault
pub mod Model
pub mod Use
