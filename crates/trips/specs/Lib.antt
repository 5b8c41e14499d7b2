-- What is promised of a step that is written and read again, and of a record that is read and written again.
pub mod Trips
pub mod laws
