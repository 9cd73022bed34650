-- What allocation answers.
pub mod Rows
