-- The laws of coded options that callers use, and the laws of the walk.
pub mod Coded
mod CodedTurns
