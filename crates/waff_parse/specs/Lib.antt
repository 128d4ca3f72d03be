pub mod Stopping
pub mod Refusals
pub mod Walks
pub mod Texts
pub mod Rows
pub mod Fields
