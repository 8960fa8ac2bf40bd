-- values that are lent or a flow's own
pub mod Lent
-- flows that are evaluated date by date
pub mod Dates
-- lists that are the first values of flows, and one value more
pub mod Fronts
-- runs of applications: steps of their bodies
pub mod Runs
-- flows that are evaluated whole
pub mod Wholes
