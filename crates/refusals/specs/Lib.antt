-- The refusals and their numbers, a step's tests, the first that fails, and what a promise settles.
pub mod Numbers
pub mod Tests
pub mod laws
