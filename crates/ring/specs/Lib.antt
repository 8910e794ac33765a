pub mod Queue
pub mod Contents
