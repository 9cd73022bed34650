-- What a fall takes of open rises (Takings), that falls equal their matches (Balance), what the open rises are worth at rates (OpenValue), and
-- the ledger as the code has it (Ledgers).
pub mod Takings
pub mod Balance
pub mod OpenValue
pub mod Ledgers
