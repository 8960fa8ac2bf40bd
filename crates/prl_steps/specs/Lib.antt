-- values as levels
pub mod Levels
-- what a flow has at its dates
pub mod Flows
-- values over ticks
pub mod Steps
-- where a level stands
pub mod Panes
-- the steps of a pixel column as one
pub mod Bars
-- the line of a flow as text
pub mod Paths
-- the plots of flows, one below another
pub mod Plots
