pub mod Naming
pub mod Choosing
pub mod Trying
pub mod Stepping
pub mod Uses
pub mod Lines
pub mod OneText
