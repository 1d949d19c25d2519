pub mod OnePlan
pub mod PlanLemmas
pub mod SimpleCommand
