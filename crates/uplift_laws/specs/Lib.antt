-- Parts of an amount by weights; signs of totals, adjusted totals and groups; the laws of the shares.
pub mod Apportion
pub mod Signs
pub mod Fair
