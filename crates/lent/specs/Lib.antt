pub mod Areas
pub mod Refusals
