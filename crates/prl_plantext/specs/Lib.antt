-- the text of a plan
pub mod PlanTexts
-- the texts of plans
pub mod ReadTexts
pub mod code
