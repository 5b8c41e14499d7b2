-- A set that is not within n has a member which is not below n.
use Rattle.std.specs.Prelude.{ℕ, ◌≤◌, ◌≡◌, true}
use Rattle.senders.specs.Masks.{is_in}

-- a member that is not below n
abbrev pub Outsider : ℕ → ℕ → Type 0
Outsider mask n = (i : ℕ) × (is_in mask i ≡ true) × (n ≤ i)
