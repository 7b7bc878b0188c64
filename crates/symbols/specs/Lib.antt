pub mod Symbols
pub mod Faults
pub mod Ticks
pub mod Moves
