pub mod Alike
pub mod Bounds
pub mod Entry
