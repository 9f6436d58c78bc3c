pub mod PlannerLaws
