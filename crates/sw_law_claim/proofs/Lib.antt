pub mod Bearing
pub mod Crashes
pub mod Floors
pub mod Names
pub mod Normal
pub mod Rows
pub mod Shown
pub mod Steps
