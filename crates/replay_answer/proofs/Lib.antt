mod Lines
mod Answers
mod Ranges
