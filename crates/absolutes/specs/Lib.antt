-- The base, as the calls read it.
pub mod Bases
