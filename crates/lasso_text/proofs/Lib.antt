pub mod Measures
pub mod Onward
pub mod Rooms
pub mod Lines
pub mod Texts
pub mod Laws
pub mod Example
