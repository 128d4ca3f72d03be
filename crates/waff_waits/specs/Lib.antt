pub mod Times
pub mod Trails
pub mod Waits
pub mod Counted
pub mod Ready
