-- Time: discretising, freshness, the larger of two stamps, and the order of a relay's state numbers.
pub mod Discretising
pub mod Fresh
pub mod Larger
pub mod Limits
pub mod Newer
pub mod laws
