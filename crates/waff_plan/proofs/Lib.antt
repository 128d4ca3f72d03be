pub mod Longest
pub mod Exclusion
pub mod Holding
pub mod NoClients
pub mod Chains
pub mod Earliest
pub mod Places
pub mod Orders
pub mod IssueOrder
pub mod StartOrder
pub mod IssuePlans
pub mod AwaitingLemmas
mod IssueSteps
mod DueLemmas
pub mod FollowLemmas
pub mod AwaitLemmas
pub mod ClientLemmas
pub mod TimingLemmas
mod LastLemmas
pub mod ServingLemmas
mod IssueFirst
mod IssueLoop
mod TurnLemmas
pub mod Ticks
pub mod Forward
pub mod Latests
mod PlaceTables
mod LockTables
pub mod Tables
pub mod Linkings
mod Followings
pub mod Noted
mod StartedLinks
mod Sequences
pub mod Ratios
pub mod ApartLaws
pub mod Uniqueness
mod Shares
pub mod LockUses
pub mod LowerBounds
pub mod LockNeedLemmas
mod Peaks
mod TreeStarts
