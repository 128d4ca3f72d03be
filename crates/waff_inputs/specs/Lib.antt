pub mod Deliveries
pub mod Fault
pub mod Known
pub mod Inputs
pub mod Told
pub mod ToolErrors
pub mod Unique
