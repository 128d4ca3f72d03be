pub mod Split
pub mod Writing
