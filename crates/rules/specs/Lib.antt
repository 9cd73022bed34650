-- Document 01 as definitions, a file for each of its sections: over the bytes of a day file as a list, and from Payments on over the
-- steps of a day, which Days makes of the bytes.
-- A line, a step and a schedule are counted from 0 here: schedule s of document 01 is s - 1, so its first is 0 and its last 4.
pub mod Fold
pub mod Layout
pub mod Refusals
pub mod Steps
pub mod Cutting
pub mod Quantities
pub mod InForce
pub mod Matching
pub mod Payments
pub mod Totals
pub mod Days
pub mod Uplift
pub mod Viewing
pub mod Book
pub mod Report
