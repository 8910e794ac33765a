pub mod Acts
pub mod Called
pub mod Tables
