-- What the code's answers say, in the terms of the rules.
pub mod Answers
