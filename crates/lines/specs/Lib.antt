pub mod Levels
pub mod Events
pub mod Records
