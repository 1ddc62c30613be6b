pub mod Choosing
pub mod Joins
pub mod Lists
pub mod Mailboxes
pub mod Readings
pub mod Sources
