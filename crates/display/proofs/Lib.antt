pub mod Before
pub mod Folding
pub mod Indexing
pub mod Law
pub mod Numbers
pub mod Pushing
pub mod Same
pub mod Walking
