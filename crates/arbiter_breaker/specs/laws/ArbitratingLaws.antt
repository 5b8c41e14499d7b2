-- What an accepted message leaves: where it changes the breaker, and where it does not.
use Rattle.std.specs.Prelude.{ℕ, ◌+◌, ◌^◌, ◌≤◌, ◌<◌, ◌≡◌, Bool, ◌&&◌, ◌||◌, cond, ◌⊎◌, Some, None}
use Rattle.std.proofs.Math.Path.{refl, ap}
use Rattle.std.proofs.Common.{sym, ◌∙◌}
use Rattle.std.proofs.Math.Bool.{true, false}
use Rattle.std.proofs.lemmas.Bool.{false≢true}
use Rattle.std.proofs.Math.Logic.{inl, inr}
use native.Mathlib.Omega.{arith}
use Rattle.std.proofs.Math.Dec.{leb, eqb}
use borrow.Author.Tests.{leb-true, leb-false, le-leb, eqb-true, eq-eqb}
use Rattle.time.specs.declared.Dts.{Dts}
use Rattle.time.specs.Larger.{larger}
use Rattle.time.specs.Fresh.{fresh}
use Rattle.senders.specs.Masks.{room, size, enough}
use Rattle.senders.proofs.laws.MaskLaws.{enough-one}
use Rattle.store.specs.declared.Store.{Store}
use Rattle.store.specs.Store.{moved_to}
use Rattle.store.specs.Held.{held}
use Rattle.store.proofs.laws.Held.{held_moved, clock-put}
use Rattle.store.proofs.laws.HeldLaws.{takes-near, held-taken, clock-at}
use Rattle.pooling.specs.declared.Pool.{Pool}
use Rattle.pooling.proofs.laws.PoolLaws.{pooled-from, not-later, latest-held}
use Rattle.breaker.specs.declared.Breaker.{Breaker}
use Rattle.breaker.specs.Breaker.{answered, changed}
use Rattle.arbiter_steps.specs.declared.Message.{Message}
use Rattle.arbiter_breaker.specs.Arbitrating.{other, received, asking, changed_by, decided}

-- the other action is one of the two, and not the one that there is
pub other_differs : (status : ℕ) → other status ≡ status → ⊥
unfolding other
other_differs status e = go (eqb status 0) refl e
  where
    go : (x : Bool) → eqb status 0 ≡ x → cond x 1 0 ≡ status → ⊥
    go true ex q = let z : status ≡ 0 = eqb-true status 0 ex in omega (arith, q, z)
    go false ex q = false≢true (sym ex ∙ eq-eqb status 0 (sym q))

-- ---- what is held

-- a message that is accepted, at a clock that is no earlier
module _ (s : Store) (t : Dts) (m : Message) (l : s.clock.0 ≤ t.0) where
  pub received-clock : (received s t m).clock ≡ t
  unfolding received
  received-clock = clock-put (moved_to s t) m.sender m.status m.stamp ∙ clock-at s t l

  -- it is held, and of what was held before whatever is still fresh
  pub received-held : m.sender < room → m.status ≤ 1 → fresh m.stamp t ≡ true → (A : ℕ) (T : Dts) (i : ℕ)
      → held (received s t m) A T i ≡ (eqb A m.status && eqb T.0 m.stamp.0 && eqb i m.sender || (fresh T t && held s A T i))
  unfolding received
  received-held has_room is-status is-fresh A T i =
      held-taken (moved_to s t) m.sender m.status m.stamp A T i
      (takes-near (moved_to s t) m.sender m.status m.stamp has_room is-status (ap (fresh m.stamp) (clock-at s t l) ∙ is-fresh))
      ∙ ap (λ (x : Bool). eqb A m.status && eqb T.0 m.stamp.0 && eqb i m.sender || x)
      (held_moved s t A T i ∙ ap (λ (c : Dts). fresh T c && held s A T i) (clock-at s t l))

-- ---- whether the breaker changes

module _ (breaker : Breaker) (messages : Store) (f : ℕ) (t : Dts) where
  -- whether it changes
  abbrev pub moves : Bool
  moves = enough (asking breaker messages).senders f

  pub when-moved : moves ≡ true
      → decided breaker messages f t ≡ record { breaker = changed_by breaker messages t; held = messages; ack = Some (changed_by breaker messages t).pair }
  unfolding decided
  when-moved e = simp e

  pub when-unmoved : moves ≡ false → decided breaker messages f t ≡ record { breaker = answered breaker t; held = messages; ack = None }
  unfolding decided
  when-unmoved e = simp e

  -- as the code has it: the pool and the breaker afterwards by themselves
  module _ (pool : Pool) (whole : pool ≡ asking breaker messages) where
    test-is : (x : Bool) → enough pool.senders f ≡ x → moves ≡ x
    test-is x e = ap (λ (p : Pool). enough p.senders f) (sym whole) ∙ e

    pub moved_by : enough pool.senders f ≡ true → (after : Breaker) → after ≡ changed_by breaker messages t
        → record { breaker = after; held = messages; ack = Some after.pair } ≡ decided breaker messages f t
    moved_by e after done = ap (λ (x : Breaker). record { breaker = x; held = messages; ack = Some x.pair }) done ∙ sym (when-moved (test-is true e))

    pub unmoved-by : enough pool.senders f ≡ false → (after : Breaker) → after ≡ answered breaker t
        → record { breaker = after; held = messages; ack = None } ≡ decided breaker messages f t
    unmoved-by e after done = ap (λ (x : Breaker). record { breaker = x; held = messages; ack = None }) done ∙ sym (when-unmoved (test-is false e))

  -- ---- the pair of a change

  larger-least : (a b : Dts) → (a.0 ≤ (larger a b).0) × (b.0 ≤ (larger a b).0)
  larger-least a b = go (leb a.0 b.0) refl
    where
      go : (x : Bool) → leb a.0 b.0 ≡ x → (a.0 ≤ (cond x b a).0) × (b.0 ≤ (cond x b a).0)
      go true e = let l = leb-true a.0 b.0 e in (l, omega arith)
      go false e = let l = leb-false a.0 b.0 e in (omega arith, omega arith)

  abbrev latest : Dts
  latest = (asking breaker messages).latest

  -- its stamp
  abbrev pub stamp_then : Dts
  stamp_then = (changed_by breaker messages t).pair.stamp

  -- it is of the action that the breaker does not have
  pub other-action : (changed_by breaker messages t).pair.status ≡ other breaker.pair.status
  unfolding changed
  other-action = refl

  -- one sender is enough for the stamp to be above the one that there was
  pub rises : moves ≡ true → breaker.pair.stamp.0 < stamp_then.0
  unfolding changed
  rises e =
      let one = enough-one (asking breaker messages).senders (some e) in
      let from = pooled-from messages _ _ one.0 one.2 in
      let up = from.1 in
      let most = from.3 in
      let last = (larger-least latest t).0 in
      omega (arith, up, most, last)
    where
      some : moves ≡ true → enough (asking breaker messages).senders 0 ≡ true
      some e = let n = leb-true (f + 1) (size (asking breaker messages).senders) e in le-leb 1 (size (asking breaker messages).senders) (omega (arith, n))

  -- "the largest of t and the stamps counted": none of these is above it,
  pub not-below : (T : Dts) (i : ℕ) → i < room → breaker.pair.stamp.0 < T.0 → T.0 < 2 ^ 32 → held messages (other breaker.pair.status) T i ≡ true → T.0 ≤ stamp_then.0
  unfolding changed
  not-below T i l up fits h =
      let most = not-later messages (other breaker.pair.status) breaker.pair.stamp T i l up fits h in
      let last = (larger-least latest t).0 in
      omega (arith, most, last)

  pub not-before : t.0 ≤ stamp_then.0
  unfolding changed
  not-before = (larger-least latest t).1

  -- and it is one of them.
  pub one-of-them : (stamp_then ≡ t) ⊎ ((i : ℕ) × (i < room) × (breaker.pair.stamp.0 < stamp_then.0) × (held messages (other breaker.pair.status) stamp_then i ≡ true))
  unfolding changed
  one-of-them = go (leb latest.0 t.0) refl (latest-held messages (other breaker.pair.status) breaker.pair.stamp)
    where
      go : (x : Bool) → leb latest.0 t.0 ≡ x
          → (latest.0 ≡ 0) ⊎ ((i : ℕ) × (i < room) × (breaker.pair.stamp.0 < latest.0) × (held messages (other breaker.pair.status) latest i ≡ true))
          → (cond x t latest ≡ t) ⊎ ((i : ℕ) × (i < room) × (breaker.pair.stamp.0 < (cond x t latest).0) × (held messages (other breaker.pair.status) (cond x t latest) i ≡ true))
      go true e w = inl refl
      go false e (inl z) = let l = leb-false latest.0 t.0 e in absurd (none z l)
        where
          none : latest.0 ≡ 0 → t.0 < latest.0 → ⊥
          none z l = omega arith
      go false e (inr r) = inr r
