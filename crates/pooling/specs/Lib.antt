-- Over all fresh stamps taken together (Pooling). Who is in such a pool: proofs/laws/PoolLaws.
pub mod Pooling
pub mod laws
