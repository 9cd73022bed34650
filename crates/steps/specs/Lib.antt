-- A long file's text (Long).
pub mod Long
