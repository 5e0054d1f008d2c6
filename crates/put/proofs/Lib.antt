pub mod Joined
pub mod Wrote
pub mod Overlap
pub mod Turns
pub mod Tables
