pub mod TextLemmas
pub mod LaneLemmas
pub mod PathLemmas
pub mod OrderLemmas
pub mod PlaceLemmas
pub mod WayLemmas
mod UsedLemmas
mod PreorderLemmas
mod RowLemmas
mod PartLemmas
mod ColourLemmas
mod LooseLemmas
mod RunLemmas
