-- What the answer of a call that writes says.
pub mod Answers
