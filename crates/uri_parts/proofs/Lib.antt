-- The laws of the parts.
pub mod Pieces
