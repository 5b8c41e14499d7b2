-- The share store: what it is (Store), what it holds and how that changes (Held), the earliest stamp held from enough senders (Earliest), each sender's
-- places (Own), what refusal 16 asks (WithinLaws). Places and Clearing are for the proofs of these. That the laws fix every answer is shown in crates/keeping.
pub mod Store
pub mod Held
pub mod Earliest
pub mod laws
