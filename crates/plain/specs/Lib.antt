pub mod Clock
pub mod Plain
pub mod Inside
