mod Heaped
mod Steps
mod Agree
pub mod Frames
