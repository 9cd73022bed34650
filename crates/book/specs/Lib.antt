-- The parts of a book as bytes of plain values, and that they make up document 01's book.
pub mod Entries
