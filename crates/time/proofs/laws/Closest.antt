-- What rounding to nearest comes to, said without a division: "Document 003 rounds to the closest" (§6 of 02). The stamp of an accepted reading, in intervals, is
-- as close to the reading as any other whole number of intervals is; of two that are equally close it is the later.
use Rattle.std.specs.Prelude.{◌≡◌, ℕ, ◌+◌, ◌-◌, ◌*◌, ◌/◌, ◌%◌, ◌<◌, ◌≤◌}
use Rattle.std.proofs.Common.{add-mul, mul-le-mul_right, div-add-mod', mod-lt, arith}
use Rattle.time.specs.declared.Micros.{Micros}
use Rattle.time.specs.declared.Rounding.TheVariants.{Nearest}
use Rattle.time.specs.Discretising.{added}
use Rattle.time.specs.laws.Neighbours.{AcceptedReading, stamp_of, accepted-stamp, accepted-interval}

-- how far one number is from another
abbrev pub apart : ℕ → ℕ → ℕ
apart a b = (a - b) + (b - a)

-- closer than any later one, and no further than any earlier one
abbrev pub Closest : (reading interval s : ℕ) → Type 0
Closest reading interval s =
    (u : ℕ) → (s < u → apart reading (s * interval) < apart reading (u * interval)) × (u < s → apart reading (s * interval) ≤ apart reading (u * interval))

-- for the number of intervals in a reading and what is added to it
module _ (i x : ℕ) (h : 0 < i) where
  abbrev raised : ℕ
  raised = x + added Nearest i

  abbrev s : ℕ
  s = raised / i

  low : s * i ≤ raised
  low = let whole : s * i + raised % i ≡ raised = div-add-mod' raised i in omega (arith, whole)

  high : raised < s * i + i
  high =
      let whole : s * i + raised % i ≡ raised = div-add-mod' raised i in
      let rest : raised % i < i = mod-lt raised h in
      omega (arith, whole, rest)

  closest-so : Closest x i s
  closest-so u = (later, earlier)
    where
      later : s < u → apart x (s * i) < apart x (u * i)
      later l =
          let more : (s + 1) * i ≤ u * i = mul-le-mul_right i (omega (arith, l)) in
          let one : (s + 1) * i ≡ s * i + 1 * i = add-mul s 1 i in
          omega (arith, more, one, low, high)

      earlier : u < s → apart x (s * i) ≤ apart x (u * i)
      earlier l =
          let more : (u + 1) * i ≤ s * i = mul-le-mul_right i (omega (arith, l)) in
          let one : (u + 1) * i ≡ u * i + 1 * i = add-mul u 1 i in
          omega (arith, more, one, low, high)

pub closest : (reading interval : Micros) → AcceptedReading Nearest reading interval → Closest reading.0 interval.0 (stamp_of Nearest reading interval)
closest reading interval e = rw (accepted-stamp Nearest reading interval e) (closest-so interval.0 reading.0 (accepted-interval Nearest reading interval e))
