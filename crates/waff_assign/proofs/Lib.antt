pub mod Climbs
pub mod Holding
mod Helds
pub mod Elements
mod Adding
mod Once
mod Numbering
mod UseLists
mod Lowering
pub mod Contentions
mod Coverings
pub mod Assignments
pub mod CellOrder
pub mod Uniqueness
pub mod Knowing
pub mod CommonCells
pub mod MoreLocks
