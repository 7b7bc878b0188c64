pub mod Inputs
pub mod Between
pub mod Course
pub mod Sums
pub mod Takes
pub mod Outcomes
