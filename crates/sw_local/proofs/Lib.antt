pub mod Drawing
pub mod Firsts
pub mod Hearing
pub mod Looking
pub mod Telling
