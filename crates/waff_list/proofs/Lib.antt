pub mod Graham
pub mod Pigeonhole
mod Running
mod Making
mod Starting
pub mod TraceWork
mod PathPlans
mod FinishLemmas
pub mod Uniqueness
pub mod SeatsUniqueness
pub mod ServedUniqueness
pub mod TailLemmas
pub mod RuleLemmas
pub mod ServedPlans
pub mod IssuePlans
mod ServiceLemmas
mod IssueEvents
mod ClientTasks
mod IssueBeginning
mod IssueJoining
mod ServedLemmas
mod TailMaking
mod TailOrders
mod Services
mod Orders
mod Keeping
mod Opening
mod Placing
mod Filling
mod Issuing
mod Learning
mod Steps
mod LettingGo
