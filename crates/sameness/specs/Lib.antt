-- What comparing two links answers.
pub mod Answers
