pub mod Text
pub mod Numbers
pub mod Lines
pub mod Values
