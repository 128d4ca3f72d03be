pub mod Machine
pub mod Laws
pub mod Lined
pub mod Entered
pub mod Noted
pub mod Queued
pub mod Scaled
pub mod Turns
