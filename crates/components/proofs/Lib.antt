pub mod Content
mod Filling
