pub mod Acceptor
pub mod Closing
pub mod Ending
pub mod Passes
pub mod Served
pub mod Sessions
pub mod Shelving
pub mod Visits
