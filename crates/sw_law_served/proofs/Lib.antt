pub mod Answers
pub mod Calls
pub mod Draws
pub mod Lost
