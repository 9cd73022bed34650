-- Pools of a line's steps and of a side's lines: what the code adds up, and that it is document 01's pool.
pub mod Sums
pub mod Sides
pub mod Sizes
pub mod Lines
pub mod Window
pub mod Marks
pub mod Passes
