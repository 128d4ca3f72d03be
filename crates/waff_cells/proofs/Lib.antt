pub mod HeldCells
pub mod MeaningLaws
mod Writes
pub mod Zeros
pub mod Holdings
mod InRows
pub mod RowRuns
mod Gathers
mod ParcelTables
