pub mod DueLaws
pub mod Laws
pub mod Lookups
pub mod Places
pub mod Quorums
pub mod Refusals
pub mod Transcripts
