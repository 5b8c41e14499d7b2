-- Laws of what State.antt defines.
use Rattle.std.specs.Prelude.{◌≤◌, Bool, true, false, not, ◌&&◌, cond, ◌≡◌, refl, leb}
use Rattle.std.proofs.lemmas.Bool.{false≢true}
use Rattle.std.proofs.Common.{ap, le-leb}
use Rattle.pairs.specs.declared.Pair.{Pair}
use Rattle.pairs.specs.Pair.{same}
use Rattle.node.specs.State.{Attempt, Done, Wait, attempts, says_attempt, says_done, says_wait, state}

-- what the promises ask of r and b is what the state says
pub attempts-state : (r b : Pair) → attempts r b ≡ says_attempt (state r b)
unfolding state
attempts-state r b = go (same r b) (leb b.stamp.0 r.stamp.0)
  where
    go : (s l : Bool) → (not s && l) ≡ says_attempt (cond s (Done b.status) (cond l (Attempt r.status) (Wait b.status)))
    go true l = refl
    go false true = refl
    go false false = refl

pub same-state : (r b : Pair) → same r b ≡ says_done (state r b)
unfolding state
same-state r b = go (same r b) (leb b.stamp.0 r.stamp.0)
  where
    go : (s l : Bool) → s ≡ says_done (cond s (Done b.status) (cond l (Attempt r.status) (Wait b.status)))
    go true l = refl
    go false true = refl
    go false false = refl

-- with equal statuses the state is Done,
pub same-no-wait : (r b : Pair) → same r b ≡ true → says_wait (state r b) ≡ false
unfolding state
same-no-wait r b e = ap (λ (s : Bool). says_wait (cond s (Done b.status) (cond (leb b.stamp.0 r.stamp.0) (Attempt r.status) (Wait b.status)))) e

-- and with r's stamp no older than b's, the state is not Wait
pub no-older-no-wait : (r b : Pair) → b.stamp.0 ≤ r.stamp.0 → says_wait (state r b) ≡ false
unfolding state
no-older-no-wait r b h = go (same r b) (leb b.stamp.0 r.stamp.0) (le-leb _ _ h)
  where
    go : (s l : Bool) → l ≡ true → says_wait (cond s (Done b.status) (cond l (Attempt r.status) (Wait b.status))) ≡ false
    go true l e = refl
    go false true e = refl
    go false false e = absurd (false≢true e)
