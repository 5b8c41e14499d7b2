-- What each step does where none of its tests fails: site and record afterwards, and what is sent. What 01's site does in a step that both have is 01's.
use Rattle.std.specs.Prelude.{ℕ, Option, None, Some, Ok, Err}
use Rattle.refusals.specs.declared.Refusal.{Refusal}
use Rattle.pairs.specs.declared.Pair.{Pair}
use Rattle.store.specs.declared.Store.{Store}
use Rattle.store.specs.Store.{empty}
use Rattle.pairs.specs.declared.Pairs.{Pairs}
use Rattle.pairs.specs.declared.Pairs.TheVariants.{Zero, One}
use Rattle.combining.specs.Combining.{put_all}
use Rattle.site.specs.declared.Site.{Site}
use Rattle.site.specs.declared.Sent.{Sent}
use Rattle.site.specs.Answers.{silence}
use Rattle.effects.specs.Effects.{with_made, with_breaker, started_site, ticked, turned}
use Rattle.arbiter_steps.specs.declared.Step.{Step}
use Rattle.arbiter_steps.specs.declared.Step.TheVariants.{Start, Tick, AtNode, Life, AtBreaker}
use Rattle.arbiter_node.specs.declared.Voter.{Voter}
use Rattle.arbiter_node.specs.declared.Voted.{Voted}
use Rattle.arbiter_node.specs.Voter.{of_peer, voted}
use Rattle.arbiter_breaker.specs.declared.Arbitrated.{Arbitrated}
use Rattle.arbiter_breaker.specs.Arbitrating.{arbitrated}
use Rattle.arbiter_site.specs.declared.Arbiter.{Arbiter}
use Rattle.arbiter_site.specs.declared.Out.{Out}

-- "A refused step sends nothing and changes nothing."
abbrev pub refused : Refusal → Arbiter → Voter → Out
refused refusal a voter = record { answer = Err refusal; site = a; node = voter }

abbrev pub done : Sent → Site → Store → Voter → Out
done sent site held voter = record { answer = Ok sent; site = record { site = site; held = held }; node = voter }

-- a node's message is its share, sent to the breaker: it is noted as made, as 01's site notes shares
abbrev pub shares_of : Option Pair → Pairs
shares_of (Some p) = One p
shares_of None = Zero

-- the end of an event at node i
abbrev pub noted : Arbiter → ℕ → Voted → Out
noted a i end =
    done (record { shares = shares_of end.message; commands = Zero; ack = None }) (with_made a.site (put_all a.site.made i (shares_of end.message))) a.held end.voter

-- the end of an accepted message: only a change sends an ack
abbrev pub heard : Arbiter → Voter → Arbitrated → Out
heard a voter end = done (record { shares = Zero; commands = Zero; ack = end.ack }) (with_breaker a.site end.breaker) end.held voter

unfoldable pub effect_of : Arbiter → Voter → Step → Out
effect_of a voter (Start b) = done silence (started_site b) (empty b.g) voter
effect_of a voter Tick = done silence (ticked a.site) a.held voter
effect_of a voter (AtNode i t event) = noted a i (voted a.site.breaker voter t event)
effect_of a voter (Life i turn) = done silence (turned a.site i turn).site a.held (of_peer (turned a.site i turn).node)
effect_of a voter (AtBreaker t m) = heard a voter (arbitrated a.site.breaker a.held a.site.f t m)
