pub mod Programs
pub mod Printing
