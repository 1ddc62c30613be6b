pub mod Ascending
pub mod Ascents
pub mod Directories
pub mod Distinct
pub mod FloorLaws
pub mod Going
pub mod Handlings
pub mod Highest
pub mod Soundly
pub mod Spoils
mod Steps
mod Surveys
mod Transcripts
