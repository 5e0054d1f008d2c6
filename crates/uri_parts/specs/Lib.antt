-- The parts of a URI text, and what is known of where they stand.
pub mod Pieces
