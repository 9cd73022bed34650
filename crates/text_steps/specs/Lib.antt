-- What the program `steps` prints (Text), and that its parts make up the whole (Parts).
pub mod Text
pub mod Parts
