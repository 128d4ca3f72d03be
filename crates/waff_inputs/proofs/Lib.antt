pub mod Delivering
pub mod Refusals
pub mod SameInput
