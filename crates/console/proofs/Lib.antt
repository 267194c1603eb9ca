pub mod Room
pub mod Printed
pub mod Lengths
pub mod Example
pub mod Counted
