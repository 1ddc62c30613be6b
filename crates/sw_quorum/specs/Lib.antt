pub mod Answers
pub mod Dues
pub mod Tally
pub mod Targets
pub mod Transcripts
pub mod Verdicts
