-- The laws of the values.
pub mod Values
