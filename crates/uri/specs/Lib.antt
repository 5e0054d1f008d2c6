-- The URI text of what was read, as it is written.
pub mod Printed
