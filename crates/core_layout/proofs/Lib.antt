mod Framing
mod Laying
mod Lying
mod Naming
mod Placing
mod Rising
mod Zipped
