pub mod Cut
mod Every
pub mod Owned
pub mod Outputs
pub mod Parted
pub mod Ranges
