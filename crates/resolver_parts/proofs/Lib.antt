mod ResultParts
mod Resolved
pub mod ResultItems
mod ResultLength
