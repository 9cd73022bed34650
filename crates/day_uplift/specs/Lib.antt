-- What a result of the uplift call says.
pub mod Answers
