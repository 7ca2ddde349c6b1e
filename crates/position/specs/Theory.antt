-- The proof that the code meets the laws of inner codes.
pub mod LabelSums
pub mod CodeLaws
pub mod ShortLaws
