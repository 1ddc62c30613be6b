pub mod Digests
mod FileNames
pub mod Folders
pub mod Hashes
pub mod Laws
pub mod Partitions
