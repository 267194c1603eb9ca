mod Blocks
mod Spoken
mod Example
