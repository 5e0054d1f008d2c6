pub mod Joined
pub mod Tables
pub mod Wrote
