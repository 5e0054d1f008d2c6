-- Parts of one of two slices, and what the code's answers say of them.
pub mod Shown
