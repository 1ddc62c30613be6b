pub mod Beginning
pub mod Ends
pub mod Events
pub mod Gets
pub mod Handed
pub mod Lone
pub mod Shown
pub mod Steps
