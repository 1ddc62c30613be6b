pub mod Duties
pub mod Replies
pub mod Staying
