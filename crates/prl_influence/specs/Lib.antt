-- which samples a job's value can show
pub mod Influence
