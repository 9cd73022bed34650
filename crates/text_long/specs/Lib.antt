-- The report of a file that is longer than any accepted one.
pub mod Report
