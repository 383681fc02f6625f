pub mod Table
pub mod Decode
pub mod Flow
pub mod Reach
pub mod Claim
