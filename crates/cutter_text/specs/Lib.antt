-- The text of the cutter's answer: its lines (CutRows), and the whole (CutText).
pub mod CutRows
pub mod CutText
