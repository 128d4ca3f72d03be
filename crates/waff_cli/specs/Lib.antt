pub mod Advice
pub mod Limits
pub mod Refusals
pub mod Requests
pub mod Tasks
pub mod Unique
pub mod Words
