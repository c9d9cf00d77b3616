pub mod Chosen
pub mod Tables
pub mod SumLaws
pub mod DigitLaws
pub mod WordLaws
pub mod TableLaws
pub mod LoopLaws
