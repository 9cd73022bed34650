-- What an accepted day's book holds fits its words and numbers, so the report read off it is the day's.
pub mod Range
