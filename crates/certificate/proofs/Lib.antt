-- The running sum of modified payments (Running), that the excess is neither constrained on nor paid (Excess), the certificate's proof
-- (Certified), also of a file of the old layout (Old), and that of each schedule's uplift (Uplift).
pub mod Running
pub mod Excess
pub mod Certified
pub mod Old
pub mod Uplift
