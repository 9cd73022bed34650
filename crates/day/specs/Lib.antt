-- The slot of a line's key (Keys).
pub mod Keys
