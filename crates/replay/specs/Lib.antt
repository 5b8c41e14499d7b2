-- Runs over logs: that each is a sequence of steps, and what it prints, exactly (Replay), and the third demand for each (Promised), with a log in which a
-- change is accepted (Example), a sequence that meets all parts of the demand (Parts) and whole logs with the bytes that they print (Listing); what every
-- promise in several parts settles (Settled); that a block prints the lines of steps (Taken), that it does not
-- matter how a log is cut into blocks (Leading, Cutting), that a log prints one text (Told), and when all of it is printed (Ending).
pub mod Replay
pub mod Promised
pub mod Example
pub mod Parts
pub mod Listing
pub mod Settled
pub mod laws
