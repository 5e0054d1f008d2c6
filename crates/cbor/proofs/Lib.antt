-- The laws of heads that callers use, and the laws that the functions' proofs cite.
pub mod BigEndian
pub mod Heads
