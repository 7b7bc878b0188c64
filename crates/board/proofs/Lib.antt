pub mod Places
pub mod Done
pub mod Seated
pub mod Heard
pub mod Loading
pub mod Saving
pub mod Range
pub mod Turns
