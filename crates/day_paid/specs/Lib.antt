-- Who pays a line of the book (Lines), what lines are paid in all (Sums) and one by one (Paid).
pub mod Lines
pub mod Sums
pub mod Paid
