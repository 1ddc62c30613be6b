pub mod Doing
pub mod Leading
pub mod ScriptedWorld
pub mod Show
pub mod Standing
pub mod Unfolding
pub mod WorldInside
