-- F-5's law: the old file with the rows in force written in (File) has the number, book, views and text of the file itself (Law).
-- Beside them: copied bytes (Bytes); folds of equal terms (Same); lines that differ in their operating quantities alone (Fields, Lines); what
-- days that agree on their steps are (Days). The law's proof, and its way there, is in proofs/.
pub mod File
pub mod Bytes
pub mod Same
pub mod Fields
pub mod Lines
pub mod Days
pub mod Law
