pub mod WireTies
pub mod ByteSets
pub mod Found
pub mod Mixing
pub mod Alike
pub mod Within
