pub mod ExprCalls
pub mod StmtCalls
pub mod Rests
pub mod ExprTexts
pub mod DeclarationTexts
pub mod StatementTexts
pub mod Sources
pub mod Lexed
