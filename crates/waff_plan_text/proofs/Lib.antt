pub mod LinesLemmas
mod LineLaws
mod WalkLaws
mod TableLaws
mod SlotLaws
mod PlanLaws
pub mod WrittenPlans
mod RowLaws
mod SummaryLaws
mod PlaceLaws
mod KeptLaws
pub mod FaultLaws
mod SpelledLaws
pub mod SpelledLineLaws
pub mod ExactLaws
pub mod HeaderLaws
mod RatioLemmas
