pub mod Change
pub mod Disk
pub mod Folder
pub mod Held
pub mod Laws
pub mod Lent
pub mod Log
pub mod Memory
