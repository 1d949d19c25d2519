pub mod Filled
pub mod Styled
pub mod inner
