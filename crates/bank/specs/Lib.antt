pub mod Bank
pub mod Banks
pub mod States
pub mod OneLaws
pub mod PairLaws
pub mod Carried
pub mod Routes
