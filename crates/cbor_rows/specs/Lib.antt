-- Where the items of a row stand.
pub mod Rows
