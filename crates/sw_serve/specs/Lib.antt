pub mod Asks
pub mod Ends
pub mod Serving
pub mod Soundly
pub mod Turns
