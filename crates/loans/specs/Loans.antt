-- "Start sets the first n and leaves the rest."
use Rattle.std.specs.Prelude.{ℕ, cond, List, ◌++◌, leb, length, drop}
use Rattle.tables.specs.Tables.{table}
use Rattle.node.specs.declared.Node.{Node}
use Rattle.effects.specs.Effects.{first_record}

-- ---- records of any kind, made by a rule from a mask and a place

module _ {R : Type 0} (rule : ℕ → ℕ → R) where
  -- the records that a Start makes, in front of those that it leaves
  abbrev pub first_by : ℕ → ℕ → List R → List R
  first_by n compromised records = table n (rule compromised) ++ drop n records

  -- the same in a table of at least n records; a shorter one stays as it is
  unfoldable pub made_by : ℕ → ℕ → List R → List R
  made_by n compromised records = cond (leb n (length records)) (first_by n compromised records) records

-- ---- those of the Peer site's nodes

abbrev pub first_records : ℕ → ℕ → List Node → List Node
first_records = first_by first_record

abbrev pub made_first : ℕ → ℕ → List Node → List Node
made_first = made_by first_record
