-- What the proofs of several functions use, and what the crates above cite: Stands, Round, Starts, Turned, and the laws of one message.
pub mod OneMessage
pub mod WholeMessage
pub mod Cycle
pub mod Stands
pub mod Round
pub mod StartTurns
pub mod Starts
pub mod Breaks
pub mod Turned
