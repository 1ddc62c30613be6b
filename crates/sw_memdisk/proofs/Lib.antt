mod Busy
mod BusyFolders
mod Contents
mod Crashed
mod Disks
mod Done
mod Files
pub mod FoundFiles
mod Keeping
mod Lending
mod Lookups
mod Moments
mod Ranks
mod Readings
mod Reserved
mod Steps
