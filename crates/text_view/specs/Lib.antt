-- The text of one step's figures, and of a line's excess.
pub mod ViewText
