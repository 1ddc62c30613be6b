pub mod Calls
pub mod Changes
pub mod Names
pub mod Normal
