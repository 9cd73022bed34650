-- An entry that two reads gave (Entry), the turns of the loop over a pack (Entries).
pub mod Entry
pub mod Entries
