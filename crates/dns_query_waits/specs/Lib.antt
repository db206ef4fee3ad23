-- What the adapters of this crate count.
pub mod WaitCounts
