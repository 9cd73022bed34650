-- A long file's line (Long).
pub mod Long
