-- The values of a request's options, and what the code's answers say of them.
pub mod Values
