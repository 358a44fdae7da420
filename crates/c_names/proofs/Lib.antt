pub mod ArgumentTurns
pub mod CastParts
pub mod TypeTurns
