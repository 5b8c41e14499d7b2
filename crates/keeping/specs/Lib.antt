-- That the store's laws fix every answer, for any way of keeping shares (Keeping, Alike), and that the answers are those of the store as it stood before §2 of
-- 02 (Before, AsBefore; Turning is for the proofs of these).
pub mod laws
