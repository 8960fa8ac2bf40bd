-- what the jobs of a command compute
pub mod Computed
