pub mod Marks
pub mod Desk
pub mod Seats
