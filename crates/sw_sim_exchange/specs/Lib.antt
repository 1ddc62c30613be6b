pub mod Exchange
pub mod ExchangeInside
pub mod Kept
pub mod Kinds
pub mod Letters
pub mod Work
