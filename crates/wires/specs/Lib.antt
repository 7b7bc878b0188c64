pub mod Holding
pub mod Wires
pub mod Inside
