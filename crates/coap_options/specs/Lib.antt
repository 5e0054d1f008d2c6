-- The options of what was read, as they are written.
pub mod Requests
