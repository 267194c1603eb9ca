mod Status
mod Joined
mod Leading
pub mod Difference
mod Lassos
mod Rounds
mod Candidates
mod Written
