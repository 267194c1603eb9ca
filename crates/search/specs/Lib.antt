pub mod Words
pub mod Queue
pub mod Search
pub mod Paths
