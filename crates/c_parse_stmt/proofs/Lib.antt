pub mod Repeated
pub mod Texts
pub mod DeclarationSound
pub mod DeclarationComplete
pub mod StatementSound
pub mod StatementComplete
pub mod ListTurns
pub mod DeclarationTurns
