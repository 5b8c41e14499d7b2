-- What an accepted command does.
use Rattle.std.specs.Prelude.{ℕ, ◌≡◌, true, false, Some}
use Rattle.std.proofs.Math.Path.{ap}
use Rattle.time.specs.declared.Dts.{Dts}
use Rattle.time.specs.Larger.{larger}
use Rattle.pairs.specs.declared.Pairs.TheVariants.{Zero}
use Rattle.pairs.specs.Pair.{pair}
use Rattle.node.specs.declared.Node.{Node}
use Rattle.breaker.specs.declared.Breaker.{Breaker}
use Rattle.breaker.specs.Breaker.{remembered, repeats}
use Rattle.breaker.specs.laws.CommandLaws.{repeat-keeps, change-moves}
use Rattle.site.specs.declared.Site.{Site}
use Rattle.site.specs.declared.Out.{Out}
use Rattle.site.specs.Answers.{done}
use Rattle.effects.specs.Effects.{with_breaker, only_ack, commanded}

module _ (site : Site) (node : Node) (t : Dts) (A : ℕ) (T : Dts) where
  abbrev afterwards : Breaker → Out
  afterwards breaker = done (only_ack breaker.pair) (with_breaker site breaker) node

  -- A command for the status that the breaker has sends the ack of the breaker's pair, whatever its own stamp; of the site the breaker's clock alone
  -- moves, to t, and the record stays.
  pub repeat-done : repeats site.breaker A ≡ true
      → commanded site node t (record { status = A; stamp = T })
      ≡ done (record { shares = Zero; commands = Zero; ack = Some site.breaker.pair })
      (with_breaker site (record { pair = site.breaker.pair; clock = t; changes = site.breaker.changes })) node
  unfolding commanded
  repeat-done e = ap afterwards (repeat-keeps site.breaker t A T e)

  -- Any other sends the ack of its own pair, with the larger of T and t; that pair is the breaker's, and stands in front of the other changes.
  pub change-done : repeats site.breaker A ≡ false
      → commanded site node t (record { status = A; stamp = T })
      ≡ done (record { shares = Zero; commands = Zero; ack = Some (pair A (larger T t)) })
      (with_breaker site (record { pair = pair A (larger T t); clock = t; changes = remembered site.breaker.changes (pair A (larger T t)) })) node
  unfolding commanded
  change-done e = ap afterwards (change-moves site.breaker t A T e)
