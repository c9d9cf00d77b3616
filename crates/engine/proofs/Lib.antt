pub mod RoundLaws
pub mod EngineLaws
pub mod BatchedLaws
pub mod LiveLaws
pub mod AloneLaws
pub mod OneBoxLaws
pub mod PlainLaws
pub mod PlainSession
