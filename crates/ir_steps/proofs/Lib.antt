mod Counting
mod Dispatch
