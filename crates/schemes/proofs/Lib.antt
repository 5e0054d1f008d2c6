-- The laws of scheme ids that callers use, and those that the functions' proofs cite.
pub mod Schemes
pub mod Table
