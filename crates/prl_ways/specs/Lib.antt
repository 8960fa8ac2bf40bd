-- chains and circles of jobs
pub mod Chains
-- how they are written
pub mod ChainTexts
-- cycles of flows
pub mod Rounds
-- how they are written
pub mod RoundTexts
