mod AffinityLemmas
mod DocumentLemmas
mod HierarchyLemmas
mod LevelLemmas
mod NameLemmas
mod SpaceLemmas
mod PartLemmas
mod AwaitLaws
mod OpLaws
mod OpsLaws
mod RangeLaws
mod ColumnLaws
mod MessageLaws
mod TraceLaws
mod ExactLaws
pub mod FaultLaws
mod HierarchyLaws
mod SpellingLaws
mod TraceSpellings
mod LineLaws
mod PlainLaws
mod HalfLaws
mod RefusalLaws
mod AffinityLaws
mod LockLaws
mod RefusedLaws
pub mod LimitLaws
mod AnewLaws
mod CutLaws
pub mod NamedLaws
