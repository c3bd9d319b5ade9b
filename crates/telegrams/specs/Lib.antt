pub mod Recursion
