pub mod Directories
pub mod Laws
mod Listed
mod Listings
mod Obsoletes
mod Ordered
mod Orders
pub mod Texts
