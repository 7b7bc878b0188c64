pub mod Form
pub mod Bytes
pub mod Asking
pub mod Results
pub mod Marks
pub mod Check
pub mod Places
pub mod Start
