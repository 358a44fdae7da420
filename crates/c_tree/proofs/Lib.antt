pub mod ExprMeasures
pub mod Sums
pub mod StatementMeasures
