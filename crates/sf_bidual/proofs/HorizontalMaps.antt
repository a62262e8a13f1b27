-- Horizontal maps: products with matrices that have zeros behind them or above them, then the laws.
pub mod Widened
pub mod Squares
