pub mod Cursors
pub mod Passes
