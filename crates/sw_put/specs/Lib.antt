pub mod Causes
pub mod Inside
pub mod Plans
pub mod Put
pub mod Standing
