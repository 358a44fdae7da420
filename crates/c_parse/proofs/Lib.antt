pub mod ExternalSound
pub mod ExternalComplete
pub mod ParsedTree
pub mod TreeLaws
pub mod ParamTurns
pub mod ExternalTurns
