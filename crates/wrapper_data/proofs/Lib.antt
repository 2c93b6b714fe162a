pub mod FormedHeaps
pub mod Opened
mod Written
