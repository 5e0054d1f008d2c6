-- What writing a reference that was read answers, and reading one that was written.
pub mod Again
pub mod Rereading
