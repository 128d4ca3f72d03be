pub mod Each
pub mod TimesLemmas
pub mod OrderingLemmas
mod TrailLemmas
mod Counting
pub mod Waiting
pub mod LettingGo
