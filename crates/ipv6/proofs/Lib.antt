pub mod Groups
pub mod ZeroRuns
pub mod GroupTexts
pub mod Mapped
pub mod MappedRun
