pub mod Along
pub mod Inside
