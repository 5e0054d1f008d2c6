-- The laws of rows of items that callers use, and the laws of the walk.
pub mod Rows
mod RowEnds
mod RowSpans
