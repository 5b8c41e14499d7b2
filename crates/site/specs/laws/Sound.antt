-- What 16 says of a site that it lets pass.
use Rattle.std.specs.Prelude.{ℕ, ◌≤◌, ◌≡◌, Bool, true, ◌&&◌, leb}
use Rattle.std.proofs.Common.{leb-true}
use Rattle.refusals.specs.laws.Bools.{left, right}
use Rattle.senders.specs.Masks.{size, within}
use Rattle.store.specs.Store.{store_within}
use Rattle.breaker.specs.Breaker.{breaker_sound}
use Rattle.site.specs.declared.Site.{Site}
use Rattle.site.specs.Site.{n, g, most_f, most_k, first_g, last_g, numbers_sound, sets_sound, site_sound}

four : (a b c d : Bool) → (a && b && c && d) ≡ true → (a ≡ true) × (b ≡ true) × (c ≡ true) × (d ≡ true)
four a b c d e =
    let three = left (a && b && c) d e in
    let two = left (a && b) c three in
    (left a b two, right a b two, right (a && b) c three, right (a && b && c) d e)

-- all that it asks, test by test
pub record Tested (site : Site) (lent : ℕ) : Type 0 where
  pub is-started : site.started ≡ true
  pub lends : leb (n site) lent ≡ true
  pub most-f : leb site.f most_f ≡ true
  pub most-k : leb site.k most_k ≡ true
  pub first-g : leb first_g (g site).0 ≡ true
  pub last-g : leb (g site).0 last_g ≡ true
  pub of-compromised : within site.compromised (n site) ≡ true
  pub few : leb (size site.compromised) site.f ≡ true
  pub of-down : within site.down (n site) ≡ true
  pub of-made : store_within site.made (n site) ≡ true
  pub of-breaker : breaker_sound site.breaker ≡ true

pub tested : (site : Site) (lent : ℕ) → site_sound site lent ≡ true → Tested site lent
unfolding site_sound sets_sound
tested site lent e =
    let all = site.started && leb (n site) lent && numbers_sound site && sets_sound site (n site) in
    let whole = four site.started (leb (n site) lent) (numbers_sound site) (sets_sound site (n site)) (left all (breaker_sound site.breaker) e) in
    let numbers = four (leb site.f most_f) (leb site.k most_k) (leb first_g (g site).0) (leb (g site).0 last_g) whole.2 in
    let sets =
    four (within site.compromised (n site)) (leb (size site.compromised) site.f) (within site.down (n site)) (store_within site.made (n site))
    whole.3
    in
    record {
      is-started = whole.0;
      lends = whole.1;
      most-f = numbers.0;
      most-k = numbers.1;
      first-g = numbers.2;
      last-g = numbers.3;
      of-compromised = sets.0;
      few = sets.1;
      of-down = sets.2;
      of-made = sets.3;
      of-breaker = right all (breaker_sound site.breaker) e;
    }

pub tests-passed : (site : Site) (lent : ℕ) → Tested site lent → site_sound site lent ≡ true
unfolding site_sound sets_sound
tests-passed site lent s =
    simp (s.is-started, s.lends, s.most-f, s.most-k, s.first-g, s.last-g, s.of-compromised, s.few, s.of-down, s.of-made, s.of-breaker)

-- what the steps' laws use of it
pub record SoundSite (site : Site) (lent : ℕ) : Type 0 where
  pub is-started : site.started ≡ true
  pub lends : n site ≤ lent
  pub most-f : site.f ≤ most_f
  pub most-k : site.k ≤ most_k
  pub last-g : (g site).0 ≤ last_g
  pub few : size site.compromised ≤ site.f

pub sound : (site : Site) (lent : ℕ) → site_sound site lent ≡ true → SoundSite site lent
sound site lent e =
    let s = tested site lent e in
    record {
      is-started = s.is-started;
      lends = leb-true _ _ s.lends;
      most-f = leb-true _ _ s.most-f;
      most-k = leb-true _ _ s.most-k;
      last-g = leb-true _ _ s.last-g;
      few = leb-true _ _ s.few;
    }
