pub mod Needs
pub mod Cuts
pub mod Open
pub mod Runs
pub mod Takers
pub mod Gathering
pub mod Lowests
pub mod Joined
