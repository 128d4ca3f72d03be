pub mod NodeEntries
pub mod RefusalLemmas
pub mod TreeLemmas
mod PreorderLemmas
mod ShareLemmas
mod ArrangeLemmas
pub mod LayoutLemmas
pub mod SpaceLemmas
pub mod ParcelLemmas
pub mod OwnerLemmas
pub mod TraceLemmas
pub mod LaterLemmas
mod BlockLemmas
pub mod TakeLemmas
pub mod SpanLemmas
pub mod OpCells
pub mod Members
pub mod DistinctNameLemmas
mod PartLemmas
pub mod Unlocking
pub mod Relocking
