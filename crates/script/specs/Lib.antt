pub mod Table
pub mod Words
pub mod Script
pub mod Scan
pub mod Print
pub mod Put
