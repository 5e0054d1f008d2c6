pub mod Address
pub mod Plain
