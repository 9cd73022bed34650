-- All figures of a step from the step, the clawback switch and its side's pool (Figures); the views of all steps of a line (LineViews).
pub mod Figures
pub mod LineViews
