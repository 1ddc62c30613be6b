pub mod Command
pub mod Gathered
pub mod Pattern
pub mod Rate
