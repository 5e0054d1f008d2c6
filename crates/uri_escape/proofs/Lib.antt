pub mod Blocks
pub mod Escape
pub mod Table
