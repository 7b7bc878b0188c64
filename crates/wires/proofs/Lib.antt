pub mod Runs
pub mod Holds
pub mod Fills
pub mod Parts
pub mod Turns
pub mod Waits
