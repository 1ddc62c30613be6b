pub mod Complete
pub mod Ends
pub mod InFull
