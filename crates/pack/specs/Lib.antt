-- The entries of a pack (Entry).
pub mod Entry
