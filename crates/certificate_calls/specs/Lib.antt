-- The certificate of real calls, and uses of it: on worked days (Uses), and F-14's clauses with their figures (RunningDays).
pub mod Calls
pub mod Lines
pub mod Matches
pub mod Uses
pub mod RunningDays
