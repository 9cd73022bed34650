-- Reading numbers back out of bytes, and where the numbers of a book stand.
pub mod Reading
pub mod Framing
