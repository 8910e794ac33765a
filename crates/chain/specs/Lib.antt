pub mod View
pub mod Acts
pub mod Calls
