pub mod Operations
pub mod Pieces
