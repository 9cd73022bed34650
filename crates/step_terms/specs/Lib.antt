-- A step's price under the cap, and whether it is paid.
pub mod Terms
pub mod Accreditation
