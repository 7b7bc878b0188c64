pub mod Ticking
pub mod Deeds
pub mod Cells
pub mod Stopping
pub mod Counting
