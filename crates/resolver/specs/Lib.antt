-- The refusal of a result that is too long.
pub mod Written
