pub mod CipherLaws
pub mod FieldLaws
pub mod SboxLaws
