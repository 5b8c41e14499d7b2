-- The `else` of a `let` knows of a phase only that it is not the one that the `let` takes. It goes by the other two.
use mathlib.Core.Path.{◌≡◌, refl}
use Rattle.node.specs.declared.Learned.{Learned}
use Rattle.node.specs.declared.Record.{Record}
use Rattle.node.specs.declared.Phase.{Phase}
use Rattle.node.specs.declared.Phase.TheVariants.{Down, Starting, Running}

pub not-running : {C : Type 0} (p : Phase) → ((rec : Record) → p ≡ Running rec → ⊥) → (p ≡ Down → C) → ((l : Learned) → p ≡ Starting l → C) → C
not-running Down h down starting = down refl
not-running (Starting l) h down starting = starting l refl
not-running (Running rec) h down starting = absurd (h rec refl)

pub not-starting : {C : Type 0} (p : Phase) → ((l : Learned) → p ≡ Starting l → ⊥) → (p ≡ Down → C) → ((rec : Record) → p ≡ Running rec → C) → C
not-starting Down h down running = down refl
not-starting (Starting l) h down running = absurd (h l refl)
not-starting (Running rec) h down running = running rec refl
