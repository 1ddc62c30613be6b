pub mod Missed
pub mod Printed
