-- The laws of texts in a row that callers use, and the laws of the walk.
pub mod Marked
mod MarkedTurns
