pub mod Entry
pub mod Lasting
