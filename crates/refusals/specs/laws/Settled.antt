-- What a promise settles. One of the form `outcome ≡ what 01 says` settles the outcome: any two that meet it are equal. A promise in several parts settles what it
-- speaks of together, the answer with everything that was lent: see crates/replay/specs/Settled.antt.
use Rattle.std.specs.Prelude.{◌≡◌}
use Rattle.std.proofs.Common.{sym, ◌∙◌}

pub settled : {A : Type 0} {said x y : A} → x ≡ said → y ≡ said → x ≡ y
settled p q = p ∙ sym q

-- any two outcomes that meet the promise are equal
abbrev pub Settles : {A : Type 0} → (A → Type 0) → Type 0
Settles {A} P = (x y : A) → P x → P y → x ≡ y
