pub mod Meaning
pub mod Cells
pub mod Addresses
pub mod Ports
pub mod Outputs
pub mod Split
