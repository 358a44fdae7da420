pub mod Repeats
pub mod Declarations
pub mod DeclarationReading
pub mod Statements
pub mod StatementReading
pub mod NestsStatement
