-- The combining rule and the end of an event (Combining), what the rule leaves (CombiningLaws), what is held once own shares
-- are put (OwnLaws), and that both leave what 16 asks (Soundness).
pub mod Combining
pub mod laws
