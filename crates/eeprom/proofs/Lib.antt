pub mod Hears
pub mod Listening
pub mod StateLaws
