-- What reading a quantity or a price finds, and what each case stands for.
pub mod Kinds
