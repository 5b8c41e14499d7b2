-- What row 16's tests of a store, of the changes and of a phase tell, and those of rows 9 and 12 of a phase.
use Rattle.std.specs.Prelude.{ℕ, zero, suc, ◌<◌, ◌≡◌, refl, Bool, true, false, ◌&&◌, ◌⊎◌, Option, Some, None}
use Rattle.time.specs.declared.Dts.{Dts}
use Rattle.std.proofs.Common.{sym, ap, ◌∙◌, true≢false, inl, inr, not-suc-le-zero, arith}
use Rattle.refusals.specs.laws.Bools.{and_assoc}
use Rattle.time.specs.Newer.{ahead, newer}
use Rattle.time.specs.Limits.{last_held_stamp, last_held_clock, stamp_sound, clock_sound}
use Rattle.tables.specs.Tables.{table}
use Rattle.store.specs.declared.Store.{Store}
use Rattle.store.specs.Store.{places, set_at, all_within, store_within}
use Rattle.pairs.specs.declared.Pair.{Pair}
use Rattle.node.specs.declared.Phase.{Phase}
use Rattle.node.specs.declared.Phase.TheVariants.{Starting, Running, Down as NotUp}
use Rattle.node.specs.declared.Node.{Node}
use Rattle.pairs.specs.Pair.{is_known}
use Rattle.node.specs.Asked.{last_number, new_after, is_new, in_attempt, armed, known_sound, resend_sound, phase_sound, node_in_range, not_above, second_sound, node_sound}
use Rattle.breaker.specs.declared.Changes.{Changes}
use Rattle.breaker.specs.Breaker.{most_changes, pair_at, pair_sound, all_sound, changes_sound}
use Rattle.refusing.specs.Tests.{node_clock}
use Rattle.rows.specs.Exactly.{Tells}
use Rattle.rows.specs.Outsiders.{Outsider}
use Rattle.rows.specs.laws.Outsiders.{outsider}
use Rattle.rows.specs.Conditions.{ClockTooLate, KnownTooLate, ResendTooLate, SenderOutside, PairOutOfRange, ChangesOutOfRange, PhaseTooLate, SecondAbove, NoSecond, SecondOutOfOrder, NotNewAfter, NotInAttempt, NoStampResent}
use Rattle.rows.specs.laws.Telling.{above, equal, ◌or◌, worded, spelled}

-- one of the first places of a list that a rule makes
abbrev OnePlace : ℕ → (ℕ → Type 0) → Type 0
OnePlace m P = (k : ℕ) × (k < m) × P k

-- that of the first place, or of a later one
split : (m : ℕ) (P : ℕ → Type 0) → (P zero ⊎ OnePlace m (λ k. P (suc k))) → OnePlace (suc m) P
split m P (inl p) = (zero, omega arith, p)
split m P (inr (k, l, p)) = (suc k, omega arith, p)

join : (m : ℕ) (P : ℕ → Type 0) → OnePlace (suc m) P → (P zero ⊎ OnePlace m (λ k. P (suc k)))
join m P (zero, l, p) = inl p
join m P (suc k, l, p) = inr (k, omega arith, p)

no_place : (P : ℕ → Type 0) → OnePlace zero P → ⊥
no_place P (k, l, p) = not-suc-le-zero l

senders-tell : (n m : ℕ) (rule : ℕ → ℕ) → Tells (all_within (table m rule) n) (OnePlace m λ k. Outsider (rule k) n)
unfolding table
senders-tell n zero rule = (λ e. absurd (true≢false e), λ o. absurd (no_place _ o))
senders-tell n (suc m) rule =
    worded (split m (λ k. Outsider (rule k) n), join m (λ k. Outsider (rule k) n)) (outsider (rule zero) n or senders-tell n m (λ k. rule (suc k)))

pub store-tells : (s : Store) (n : ℕ) → Tells (store_within s n) (SenderOutside s n)
unfolding store_within
store-tells s n = senders-tell n places (set_at s)

pub pair-tells : (p : Pair) → Tells (pair_sound p) (PairOutOfRange p)
pair-tells p = above p.status 1 or above p.stamp.0 last_held_stamp

pairs-tell : (m : ℕ) (rule : ℕ → Pair) → Tells (all_sound (table m rule)) (OnePlace m λ k. PairOutOfRange (rule k))
unfolding table
pairs-tell zero rule = (λ e. absurd (true≢false e), λ o. absurd (no_place _ o))
pairs-tell (suc m) rule =
    worded (split m (λ k. PairOutOfRange (rule k)), join m (λ k. PairOutOfRange (rule k))) (pair-tells (rule zero) or pairs-tell m (λ k. rule (suc k)))

pub changes-tell : (changes : Changes) → Tells (changes_sound changes) (ChangesOutOfRange changes)
unfolding changes_sound
changes-tell changes = above changes.count 8 or pairs-tell most_changes (pair_at changes)

pub known_tells : (k : Option Pair) → Tells (known_sound k) (KnownTooLate k)
known_tells (Some p) = above p.stamp.0 last_held_stamp
known_tells None = (λ e. absurd (true≢false e), absurd)

resend-tells : (r : Option Dts) → Tells (resend_sound r) (ResendTooLate r)
resend-tells (Some T) = above T.0 last_held_stamp
resend-tells None = (λ e. absurd (true≢false e), absurd)

nothing-told : Tells true ⊥
nothing-told = (λ e. absurd (true≢false e), absurd)

phase-tells : (p : Phase) → Tells (phase_sound p) (PhaseTooLate p)
phase-tells NotUp = nothing-told
phase-tells (Starting l) =
    spelled (and_assoc (known_sound l.r) (known_sound l.b) (known_sound l.second)) (known_tells l.r or known_tells l.b or known_tells l.second)
phase-tells (Running rec) =
    spelled
    (and_assoc (stamp_sound rec.r.stamp && stamp_sound rec.b.stamp) (resend_sound rec.resend) (known_sound rec.second)
    ∙ and_assoc (stamp_sound rec.r.stamp) (stamp_sound rec.b.stamp) (resend_sound rec.resend && known_sound rec.second))
    (above rec.r.stamp.0 last_held_stamp or above rec.b.stamp.0 last_held_stamp or resend-tells rec.resend or known_tells rec.second)

above-tells : (second b : Option Pair) → Tells (not_above second b) (SecondAbove second b)
above-tells (Some second) (Some b) = above second.stamp.0 b.stamp.0
above-tells (Some second) None = nothing-told
above-tells None b = nothing-told

none-tells : (second : Option Pair) → Tells (is_known second) (NoSecond second)
none-tells (Some second) = nothing-told
none-tells None = (λ e. tt, λ h. refl)

second-tells : (p : Phase) → Tells (second_sound p) (SecondOutOfOrder p)
second-tells NotUp = nothing-told
second-tells (Starting l) = above-tells l.second l.b
second-tells (Running rec) = none-tells rec.second or above-tells rec.second (Some rec.b)

-- for a node by its phase and its store
module _ (s : Store) where
  abbrev at : Phase → Node
  at p = record { phase = p; store = s }

  abbrev RecordTooLate : Phase → ℕ → Type 0
  RecordTooLate p n = ClockTooLate s.clock ⊎ SenderOutside s n ⊎ PhaseTooLate p ⊎ SecondOutOfOrder p

  -- the four tests of a record in the order of the words
  record-tells : (p : Phase) (n : ℕ) → Tells (node_sound (at p) n) (RecordTooLate p n)
  unfolding node_sound node_in_range
  record-tells p n =
      spelled
      (and_assoc (clock_sound s.clock && store_within s n) (phase_sound p) (second_sound p)
      ∙ and_assoc (clock_sound s.clock) (store_within s n) (phase_sound p && second_sound p))
      (above s.clock.0 last_held_clock or store-tells s n or phase-tells p or second-tells p)

  attempt-tells : (p : Phase) → Tells (in_attempt (at p)) (NotInAttempt p)
  attempt-tells NotUp = (λ e. tt, λ h. refl)
  attempt-tells (Starting l) = (λ e. tt, λ h. refl)
  attempt-tells (Running rec) = equal rec.r.status rec.b.status or above rec.b.stamp.0 rec.r.stamp.0

  resent-tells : (p : Phase) → Tells (armed (at p)) (NoStampResent p)
  resent-tells NotUp = (λ e. tt, λ h. refl)
  resent-tells (Starting l) = (λ e. tt, λ h. refl)
  resent-tells (Running rec) = go rec.resend refl
    where
      is_off : Option Dts → Bool
      is_off (Some T) = false
      is_off None = true

      go : (r : Option Dts) → rec.resend ≡ r → Tells (armed (at (Running (record { r = rec.r; b = rec.b; second = rec.second; number = rec.number; resend = r })))) (r ≡ None)
      go (Some T) e = (λ h. absurd (true≢false h), λ h. absurd (true≢false (sym (ap is_off h))))
      go None e = (λ h. refl, λ h. refl)

newer-tells : (number : ℕ) (last : Option ℕ) → Tells (new_after number last) (NotNewAfter number last)
unfolding newer
newer-tells number (Some last) = worded (least, λ h. go h) (above 1 (ahead number last) or above (ahead number last) 2_147_483_647)
  where
    least : (ahead number last < 1) ⊎ (2_147_483_647 < ahead number last) → (ahead number last ≡ 0) ⊎ (2_147_483_647 < ahead number last)
    least (inl l) = inl (omega arith)
    least (inr h) = inr h

    go : (ahead number last ≡ 0) ⊎ (2_147_483_647 < ahead number last) → (ahead number last < 1) ⊎ (2_147_483_647 < ahead number last)
    go (inl e) = inl (omega arith)
    go (inr h) = inr h
newer-tells number None = (λ e. absurd (true≢false e), absurd)

pub new-tells : (node : Node) (number : ℕ) → Tells (is_new node number) (NotNewAfter number (last_number node.phase))
new-tells node number = newer-tells number (last_number node.phase)

pub node-tells : (node : Node) (n : ℕ) → Tells (node_sound node n) (ClockTooLate (node_clock node) ⊎ SenderOutside node.store n ⊎ PhaseTooLate node.phase ⊎ SecondOutOfOrder node.phase)
node-tells node n = record-tells node.store node.phase n

pub in-attempt-tells : (node : Node) → Tells (in_attempt node) (NotInAttempt node.phase)
in-attempt-tells node = attempt-tells node.store node.phase

pub armed-tells : (node : Node) → Tells (armed node) (NoStampResent node.phase)
armed-tells node = resent-tells node.store node.phase
