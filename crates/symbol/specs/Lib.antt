pub mod Symbols
pub mod Ends
