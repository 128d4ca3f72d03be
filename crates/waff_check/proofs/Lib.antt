mod FirstLaws
mod TextLaws
mod TickLaws
mod CrowdLaws
mod ShiftLaws
mod ShiftSteps
mod PlaceLaws
mod OverlapLaws
mod LinkLaws
mod ListLaws
pub mod ServedLaws
pub mod ServesLaws
mod ShortLaws
pub mod PromiseLaws
pub mod Uniqueness
pub mod OwnLaws
pub mod Tellable
