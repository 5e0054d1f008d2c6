-- What a refusal and a verdict say.
pub mod Answers
-- The text that they print.
pub mod Texts
