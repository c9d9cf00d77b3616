pub mod Word
pub mod Tables
pub mod WordLaws
pub mod TableLaws
pub mod ReadLaws
