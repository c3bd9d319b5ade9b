pub mod Starts
