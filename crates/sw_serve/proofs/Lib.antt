pub mod Alike
pub mod Asks
pub mod Connections
pub mod Mapped
pub mod Sends
pub mod Soundly
pub mod Turns
