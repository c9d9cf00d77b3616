pub mod CallLaws
pub mod Given
pub mod HeldLaws
pub mod SessionLaws
