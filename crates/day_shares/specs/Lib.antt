-- Groups of schedules as the code finds them, and what it works out on the way to their shares.
pub mod Groups
pub mod Parts
