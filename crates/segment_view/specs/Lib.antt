-- Parts of a slice.
pub mod Shown
