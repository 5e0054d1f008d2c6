-- What the functions of this crate answer, in the terms of the rules.
pub mod Answers
