pub mod Calls
pub mod Wire
pub mod Timed
pub mod Delay
pub mod States
pub mod WireLaws
pub mod Queues
pub mod DelayLaws
