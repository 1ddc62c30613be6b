mod Decimals
pub mod Digits
pub mod DigitsRead
pub mod HeadForms
pub mod HexTexts
pub mod Names
mod Pairs
pub mod Policies
