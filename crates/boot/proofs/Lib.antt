pub mod CopyLemmas
pub mod RestoreLemmas
