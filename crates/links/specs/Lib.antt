pub mod Losses
pub mod Links
