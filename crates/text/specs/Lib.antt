-- What it is to be put from a place on (Put), decimal numbers (Digits, Signed), and numbers one after another (Rows).
pub mod Put
pub mod Digits
pub mod Signed
pub mod Rows
