-- halves of values, and tagged words
pub mod Halves
-- what jobs read and give over a run, over numbers alone
pub mod RunValues
-- what words and parts say of a state
pub mod Agreement
-- the constants and values of a run of a plan
pub mod Known
-- the rule of the table
pub mod Rule
-- what each kind of step does to a view
pub mod Steps
-- what each kind of step tells a seat
pub mod Told
-- the laws of plans on which the steps rest
pub mod PlanLaws
pub mod Vocabulary
