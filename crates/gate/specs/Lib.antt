pub mod Gate
pub mod GateLaws
