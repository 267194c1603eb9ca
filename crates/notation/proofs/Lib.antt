pub mod Outcomes
pub mod Opening
pub mod Texting
pub mod Whole
pub mod Laws
pub mod SheetB
pub mod Refused
pub mod Taken
