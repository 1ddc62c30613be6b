pub mod Asked
pub mod Ends
pub mod Missed
pub mod Timed
