-- Options in a row, as a loop writes them.
pub mod Coded
