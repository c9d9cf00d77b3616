pub mod BitLaws
pub mod ChosenLaws
