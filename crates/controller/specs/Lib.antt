pub mod Plan
pub mod Bound
pub mod Alone
pub mod Inside
