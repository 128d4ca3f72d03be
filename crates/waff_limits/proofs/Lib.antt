pub mod Cells
pub mod Uses
pub mod DataLaws
pub mod EdgeLemmas
pub mod WalkLemmas
pub mod LimitLemmas
mod AfterLaws
pub mod FirstCells
pub mod LiftLemmas
pub mod LiftedLists
pub mod WhyOrder
pub mod LiftRows
pub mod WhyFields
pub mod LimitLaws
pub mod RunLemmas
pub mod JumpLemmas
pub mod InnerLemmas
pub mod Searching
pub mod Sharing
pub mod SharedCells
mod Ranges
pub mod LockLaws
pub mod WrittenCells
pub mod SkyLemmas
pub mod Skyline
