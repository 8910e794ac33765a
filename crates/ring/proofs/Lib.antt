pub mod Windows
pub mod Rings
pub mod Turns
