-- What the measuring program is told, as one number.
pub mod Packed
