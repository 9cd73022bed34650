-- The report read off a book's bytes, and why it is the day's report.
pub mod BookText
pub mod Settled
