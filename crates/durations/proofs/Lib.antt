mod Answers
mod Spoken
mod Example
