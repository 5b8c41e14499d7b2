-- A node of the Arbiter Protocol (Voter), and what an event leaves of it (VoterLaws).
pub mod Voter
pub mod laws
