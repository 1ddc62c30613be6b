pub mod Changing
pub mod Folder
pub mod Handling
pub mod Mounting
pub mod Node
pub mod Reading
pub mod Storing
