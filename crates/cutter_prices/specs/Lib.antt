-- What the cutter writes of a step (Step), the laws of a step's price and flag (Rule), and of where its price stands (Slots).
pub mod Step
pub mod Rule
pub mod Slots
