pub mod LineLaws
pub mod NamedMessages
