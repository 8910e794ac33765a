pub mod Port
pub mod View
pub mod Figures
