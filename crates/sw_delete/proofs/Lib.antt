pub mod Causes
pub mod Changes
pub mod Devices
pub mod Dues
pub mod Ends
pub mod Transcripts
