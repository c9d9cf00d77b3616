pub mod Ready
pub mod WindowLaws
