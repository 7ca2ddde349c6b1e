pub mod Words
pub mod Product
pub mod Fields
pub mod Polynomials
pub mod WordLaws
