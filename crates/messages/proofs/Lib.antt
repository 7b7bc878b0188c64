pub mod Going
pub mod Bytewise
pub mod Walking
pub mod Messages
pub mod Listed
pub mod Transactions
