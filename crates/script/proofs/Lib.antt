pub mod FirstFaults
pub mod Lines
pub mod Orderly
pub mod Parts
pub mod Passes
pub mod Places
pub mod Verdicts
pub mod Words
