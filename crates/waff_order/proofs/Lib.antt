pub mod Parts
pub mod NeedLemmas
pub mod ChosenLemmas
mod Taking
mod Places
mod Agreeing
mod Closure
mod TakerLemmas
mod Steps
mod Holding
mod LockHolding
mod Counting
mod Gathered
mod OneMore
mod LowestLemmas
mod CarryLemmas
