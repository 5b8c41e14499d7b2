-- A set of senders as a mask: "bit i is node i".
use Rattle.std.specs.Prelude.{ℕ, ◌+◌, ◌/◌, ◌%◌, ◌^◌, Bool, cond, eqb, leb, ltb}
use Rattle.std.specs.Int.Bits.{bit_or, bit_xor}
use Rattle.senders.specs.Sets.{count_below}

-- how many senders a mask has room for
abbrev pub room : ℕ
room = 16

-- bit i of the mask is 1
unfoldable pub is_in : ℕ → ℕ → Bool
is_in mask i = eqb (mask / 2 ^ i % 2) 1

-- how many senders are in the set
unfoldable pub size : ℕ → ℕ
size mask = count_below room (is_in mask)

-- "The threshold is f + 1": the set has at least so many senders
abbrev pub enough : ℕ → ℕ → Bool
enough mask f = leb (f + 1) (size mask)

-- the set with sender i too
unfoldable pub joined : ℕ → ℕ → ℕ
joined mask i = cond (ltb i room) (bit_or mask (2 ^ i)) mask

-- the set without sender i
unfoldable pub without : ℕ → ℕ → ℕ
without mask i = cond (is_in mask i) (bit_xor mask (2 ^ i)) mask

-- the senders of either set
unfoldable pub together : ℕ → ℕ → ℕ
together mask others = bit_or mask others

-- no bit from n on is 1: every sender in the set is below n
unfoldable pub within : ℕ → ℕ → Bool
within mask n = ltb mask (2 ^ n)
