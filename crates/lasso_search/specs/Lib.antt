pub mod Lassos
pub mod Reporting
pub mod Codes
