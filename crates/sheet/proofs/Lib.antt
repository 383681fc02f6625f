pub mod Entries
pub mod Wraps
pub mod Tables
pub mod Before
pub mod Notes
pub mod Accepted
pub mod Called
