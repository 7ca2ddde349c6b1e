-- The proof that the codes meet the laws of inner codes.
pub mod AnyPoints
pub mod Zeros
pub mod Distance
pub mod Points
pub mod Orbits
pub mod Horner
pub mod Unique
pub mod Remainder
pub mod Generator
pub mod Tested
pub mod Inner
pub mod Laws
