mod AnyPieces
pub mod Archives
mod Cuts
mod DataPieces
mod Decisions
mod Decodings
pub mod Faults
pub mod Gatherings
mod Heads
mod Labels
pub mod Objects
mod Openings
mod PairTexts
mod Paths
mod Payloads
mod Pieces
mod Readings
pub mod Sealed
mod SideBySide
