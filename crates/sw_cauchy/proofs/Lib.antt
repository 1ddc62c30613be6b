pub mod AnyFragments
mod CauchyElimination
mod ColumnSums
mod Decoding
mod EliminationSteps
mod FieldAlgebra
pub mod Fragments
mod GeneratorRows
mod Independence
mod Inverses
mod Invertible
mod MatrixRows
mod Multiples
mod Parts
mod Pivot
mod RowOperations
mod RowSums
mod RowTimes
mod Shares
mod UnitMatrix
