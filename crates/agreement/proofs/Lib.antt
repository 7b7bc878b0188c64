-- ticks
pub mod Maps
pub mod Time
pub mod Table
pub mod Ticks
-- symbols, at every tick
pub mod Symbols
pub mod Moments
-- the wires for the layers above
pub mod Standing
pub mod Interface
pub mod Faultless
-- bytes
pub mod Bits
pub mod Tuned
pub mod Bytes
-- messages, transactions, lists
pub mod Good
pub mod Quotas
pub mod Messages
pub mod Lists
-- the list's bytes, the board, the run
pub mod Right
pub mod Board
pub mod Runs
pub mod Agree
-- ticks and results of the plain reading
pub mod Tally
pub mod Frames
pub mod Sent
pub mod Totals
pub mod Area
pub mod Bounds
pub mod Splits
-- the entries
pub mod Accepted
pub mod Ending
pub mod Overwritten
pub mod Demand3
pub mod Formula
pub mod Answers
pub mod OneAnswer
