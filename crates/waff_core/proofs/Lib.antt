pub mod Phases
pub mod Marking
pub mod Settling
pub mod Sound
pub mod Clearings
mod Determined
mod OneActor
mod GoingOn
pub mod Following
mod Deciding
pub mod Reaching
pub mod OrderLength
pub mod Arrival
mod StatusLaws
pub mod Listing
mod Ordering
mod Making
mod Reading
pub mod Owning
mod Pace
mod StatusLemmas
mod Lending
