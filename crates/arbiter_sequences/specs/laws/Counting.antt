-- Who is in the breaker's pool is whoever is counted, told by what is held.
use Rattle.std.specs.Prelude.{ℕ, ◌^◌, ◌≤◌, ◌<◌, ◌≡◌, Bool, ◌&&◌, ◌||◌, List, [], ◌∷◌, ltb}
use Rattle.std.proofs.Math.Path.{refl}
use Rattle.std.proofs.Common.{sym, ap, ◌∙◌, arith, ltb-true, lt-ltb}
use Rattle.std.proofs.Math.Bool.{true, false, and-eq-true_iff}
use Rattle.std.proofs.lemmas.Bool.{false≢true}
use Rattle.time.specs.declared.Dts.{Dts}
use Rattle.time.specs.Fresh.{fresh}
use Rattle.time.specs.laws.Fresh.{latest_clock, fresh-ahead}
use Rattle.senders.specs.Sets.{count_below}
use Rattle.senders.specs.laws.Sets.{count-ext, count-above}
use Rattle.senders.specs.Masks.{room, is_in, size}
use Rattle.store.specs.declared.Store.{Store}
use Rattle.store.specs.Held.{held}
use Rattle.store.specs.Earliest.{dts, fresh_stamps}
use Rattle.pooling.specs.Pooling.{pooled}
use Rattle.pooling.proofs.laws.PoolLaws.{In, first, after, in_window, pooled-has, pooled-from}
use Rattle.arbiter_sequences.specs.History.{some_of}

-- ---- one of a list passes a test

some_in : (Ts : List ℕ) (test : ℕ → Bool) {T : ℕ} → In T Ts → test T ≡ true → some_of Ts test ≡ true
some_in [] test {T = T} x'' e = elim x'' [ ]
some_in (T ∷ Ts) test first e = ap (λ (x : Bool). x || some_of Ts test) e
some_in (U ∷ Ts) test (after w) e = later (test U) (some_in Ts test w e)
  where
    later : (x : Bool) → some_of Ts test ≡ true → (x || some_of Ts test) ≡ true
    later true h = refl
    later false h = h

some-from : (Ts : List ℕ) (test : ℕ → Bool) → some_of Ts test ≡ true → (T : ℕ) × In T Ts × (test T ≡ true)
some-from [] test e = absurd (false≢true e)
some-from (U ∷ Ts) test e = go (test U) refl e (some-from Ts test)
  where
    go : (x : Bool) → test U ≡ x → (x || some_of Ts test) ≡ true → (some_of Ts test ≡ true → (T : ℕ) × In T Ts × (test T ≡ true)) → (T : ℕ) × In T (U ∷ Ts) × (test T ≡ true)
    go true ex h ih = (U, first, ex)
    go false ex h ih = let r = ih h in (r.0, after r.1, r.2)

either_way : (x y : Bool) → (x ≡ true → y ≡ true) → (y ≡ true → x ≡ true) → x ≡ y
either_way true y to back = sym (to refl)
either_way false true to back = back refl
either_way false false to back = refl

-- ---- for a store that holds what is told, at a clock t

module _ (s : Store) (A : ℕ) (S t : Dts) (told : Dts → ℕ → Bool) (not_late : t.0 ≤ latest_clock) (holding : (T : Dts) (i : ℕ) → held s A T i ≡ told T i)
    (while-fresh : (T : Dts) (i : ℕ) → told T i ≡ true → fresh T t ≡ true) where
  abbrev counted : ℕ → Bool
  counted i = some_of (fresh_stamps t) λ T. ltb S.0 T && told (dts T) i

  fits : (T : Dts) (i : ℕ) → told T i ≡ true → T.0 < 2 ^ 32
  fits T i e = let ahead = fresh-ahead T t (while-fresh T i e) in omega (arith, ahead, not_late)

  in-pool : (i : ℕ) → i < room → is_in (pooled s A S).senders i ≡ counted i
  in-pool i l = either_way (is_in (pooled s A S).senders i) (counted i) to back
    where
      to : is_in (pooled s A S).senders i ≡ true → counted i ≡ true
      to e =
          let from = pooled-from s A S i e in
          let is : told from.0 i ≡ true = sym (holding from.0 i) ∙ from.2 in
          some_in (fresh_stamps t) (λ T. ltb S.0 T && told (dts T) i) (in_window t from.0 (while-fresh from.0 i is))
          ((and-eq-true_iff (ltb S.0 from.0.0) (told from.0 i)).1 (lt-ltb S.0 from.0.0 from.1, is))

      back : counted i ≡ true → is_in (pooled s A S).senders i ≡ true
      back e =
          let found = some-from (fresh_stamps t) (λ T. ltb S.0 T && told (dts T) i) e in
          let both = (and-eq-true_iff (ltb S.0 found.0) (told (dts found.0) i)).0 found.2 in
          pooled-has s A S (dts found.0) i l (ltb-true S.0 found.0 both.0) (fits (dts found.0) i both.1) (holding (dts found.0) i ∙ both.1)

  -- as many, where nobody from n on is held
  pub as_many : (n : ℕ) → n ≤ room → ((T : Dts) (i : ℕ) → told T i ≡ true → i < n) → size (pooled s A S).senders ≡ count_below n counted
  unfolding size
  as_many n few below =
      count-above n room (is_in (pooled s A S).senders) few (λ i l. none i l (is_in (pooled s A S).senders i) refl)
      ∙ count-ext n (is_in (pooled s A S).senders) counted (λ i l. in-pool i (omega (arith, l, few)))
    where
      none : (i : ℕ) → n ≤ i → (x : Bool) → is_in (pooled s A S).senders i ≡ x → x ≡ false
      none i l true e =
          let from = pooled-from s A S i e in
          let less = below from.0 i (sym (holding from.0 i) ∙ from.2) in
          absurd (omega (arith, l, less))
      none i l false e = refl
