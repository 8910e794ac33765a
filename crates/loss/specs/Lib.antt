pub mod Script
pub mod Counts
pub mod Loss
pub mod States
pub mod LossLaws
