-- The result of resolving, as parts of the two inputs.
pub mod Parts
-- The bytes of a result.
pub mod Written
