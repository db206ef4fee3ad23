-- Definitions of what words of an rdata mean.
pub mod Addresses
pub mod Times
pub mod Texts
pub mod Bitmaps
