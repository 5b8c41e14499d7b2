-- What the functions of this crate promise: of the site the part that a step changes, and the acting node's record.
use Rattle.std.specs.Prelude.{ℕ, ◌≡◌}
use Rattle.std.proofs.Common.{sym, ap}
use Rattle.time.specs.declared.Dts.{Dts}
use Rattle.senders.specs.Masks.{joined, without}
use Rattle.pairs.specs.declared.Pairs.TheVariants.{Zero}
use Rattle.steps.specs.declared.Event.{Event}
use Rattle.steps.specs.declared.Turn.{Turn}
use Rattle.steps.specs.declared.Turn.TheVariants.{Down, Up}
use Rattle.node.specs.declared.Node.{Node}
use Rattle.node.specs.declared.Acted.{Acted}
use Rattle.combining.specs.Combining.{put_all}
use Rattle.events.specs.Events.{went_down, went_up}
use Rattle.acting.specs.Acting.{acted}
use Rattle.site.specs.declared.Site.{Site}
use Rattle.effects.specs.declared.Noted.{Noted}
use Rattle.effects.specs.declared.Turned.{Turned}

abbrev pub noted_by : Site → ℕ → Acted → Noted
noted_by site i end = record { node = end.node; made = put_all site.made i end.shares; shares = end.shares; commands = end.commands }

abbrev pub noted_of : Site → Node → ℕ → Dts → Event → Noted
noted_of site node i t event = noted_by site i (acted site.breaker node i site.f t event)

-- an event that shares nothing leaves the shares as they are
pub none-shared : (site : Site) (i : ℕ) (end : Acted) → end.shares ≡ Zero
    → record { node = end.node; made = site.made; shares = Zero; commands = end.commands } ≡ noted_by site i end
unfolding put_all
none-shared site i end e =
    λ k. record { node = end.node; made = sym (ap (put_all site.made i) e) k; shares = sym e k; commands = end.commands }

abbrev pub turned_of : ℕ → ℕ → Turn → Turned
turned_of down i Down = record { down = joined down i; node = went_down }
turned_of down i Up = record { down = without down i; node = went_up }
