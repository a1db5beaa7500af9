pub mod Forecast
pub mod Capped
pub mod Counting
