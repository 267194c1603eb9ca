pub mod Openings
pub mod Laws
