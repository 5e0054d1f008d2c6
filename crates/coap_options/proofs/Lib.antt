-- The laws of the options as they are written, and of what the call rules.
mod Pieces
mod CallCases
