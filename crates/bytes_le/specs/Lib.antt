-- What 64 bits in a list of bytes stand for.
pub mod Wide
