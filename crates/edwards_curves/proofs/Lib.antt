pub mod FourLimbs
pub mod Ladders
pub mod Rests
