-- Laws by kind. The crates above cite Moves; Table is for readers.
pub mod Ladder
pub mod Moves
pub mod Table
