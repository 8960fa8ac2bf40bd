mod Digits
pub mod Two
