mod Alike
mod EmptyLines
mod Inputs
mod Loaded
mod Outcomes
mod Played
mod Refused
