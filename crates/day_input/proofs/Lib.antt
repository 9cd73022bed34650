-- Reading on (Stream), what a program writes for a whole file (Whole).
pub mod Stream
pub mod Whole
