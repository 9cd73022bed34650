-- What reading a long day on counts, and what is written for it (Stream).
pub mod Stream
