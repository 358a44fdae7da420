mod Acting
mod Bursts
mod Ends
mod Finding
mod Leaving
mod Popping
mod Same
mod Starts
