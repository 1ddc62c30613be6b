pub mod Calling
pub mod Cells
pub mod Handling
pub mod Learning
pub mod Locked
pub mod Mounting
pub mod Standing
