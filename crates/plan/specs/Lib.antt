pub mod Plan
pub mod Names
pub mod PlanLaws
