pub mod Answers
pub mod Ends
pub mod Unique
pub mod Runs
