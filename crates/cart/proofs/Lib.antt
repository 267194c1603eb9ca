mod Answers
mod Spoken
mod Wordings
mod Example
