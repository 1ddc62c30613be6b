pub mod Forms
pub mod Handling
pub mod Mounting
pub mod Told
