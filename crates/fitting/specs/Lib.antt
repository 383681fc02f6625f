pub mod Input
pub mod Planner
pub mod Text
