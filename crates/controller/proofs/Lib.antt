-- Laws by kind. The crates above cite Matches, Simulation and Bound.
pub mod Ticking
pub mod Matches
pub mod Simulation
pub mod Record
pub mod Entry
pub mod Bound
