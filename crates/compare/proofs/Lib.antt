mod Blocks
mod Answers
mod Spoken
mod ReadBack
mod Example
