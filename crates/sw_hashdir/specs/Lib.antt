pub mod Directory
pub mod Listing
pub mod Obsolete
pub mod Order
