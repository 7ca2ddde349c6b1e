pub mod Groups
pub mod GroupLaws
pub mod InnerData
