pub mod Early
-- what the checks of rows keep
pub mod Devices
