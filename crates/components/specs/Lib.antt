-- How the components of the rules are laid out in this crate's structs, and what any values of the structs say.
pub mod Layout
pub mod Content
