-- The laws of absolute references that callers use.
pub mod AbsoluteOpenings
