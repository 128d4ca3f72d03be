pub mod Lists
pub mod SumLemmas
pub mod GroupLemmas
pub mod KindRows
mod BelowLemmas
mod TallyLemmas
mod MemberLemmas
pub mod NameLemmas
mod LineLemmas
pub mod AddingUp
pub mod RowLemmas
mod PercentileLemmas
pub mod FigureLaws
pub mod LeastLaws
mod PlanLemmas
mod SweepLemmas
mod NameLaws
pub mod PartLemmas
pub mod Falling
mod PartRows
mod LocksWaited
mod WaitLemmas
mod WaitRowLemmas
pub mod WaitKinds
mod WaitOrder
mod WaitGroups
mod WaitSums
pub mod WaitUnique
mod WorstLemmas
pub mod WorstLaws
