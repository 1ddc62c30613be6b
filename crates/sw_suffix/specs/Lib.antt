pub mod Entries
pub mod Kept
pub mod Suffix
pub mod Table
