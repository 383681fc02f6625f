pub mod Limits
pub mod Settings
pub mod Bytes
pub mod State
pub mod Effect
pub mod Suits
pub mod Step
pub mod Law
