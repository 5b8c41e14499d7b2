-- A step with a verdict of 16 that is given, its parts, and that with the verdict of its own tests it is the step.
use Prim.Native.Nat.{ℕ}
use Rattle.std.specs.Prelude.{◌≡◌, Bool, true, ◌&&◌, [], ◌∷◌, None, Result, Ok, Err}
use Rattle.std.proofs.Math.Path.{refl, sym, ap}
use Rattle.std.proofs.Common.{◌∙◌}
use Rattle.refusals.specs.declared.Refusal.{Refusal}
use Rattle.refusals.specs.declared.Refusal.TheVariants.{BadStart}
use Rattle.refusals.specs.Tests.{refusal}
use Rattle.refusals.specs.laws.Bools.{and-true}
use Rattle.time.specs.declared.Dts.{Dts}
use Rattle.store.specs.declared.Store.{Store}
use Rattle.pairs.specs.declared.Pairs.{Pairs}
use Rattle.pairs.specs.declared.Pairs.TheVariants.{Zero}
use Rattle.steps.specs.declared.Beginning.{Beginning}
use Rattle.steps.specs.declared.Event.{Event}
use Rattle.steps.specs.declared.Turn.{Turn}
use Rattle.steps.specs.declared.Turn.TheVariants.{Down, Up}
use Rattle.steps.specs.declared.Act.{Act}
use Rattle.steps.specs.declared.Step.{Step}
use Rattle.steps.specs.declared.Step.TheVariants.{Start, Tick, AtNode, Life, AtBreaker}
use Rattle.steps.specs.Named.{named}
use Rattle.node.specs.declared.Node.{Node}
use Rattle.breaker.specs.declared.Breaker.{Breaker}
use Rattle.breaker.specs.Breaker.{after_command}
use Rattle.site.specs.declared.Site.{Site}
use Rattle.site.specs.declared.Out.{Out}
use Rattle.site.specs.Site.{site_sound, actor_sound}
use Rattle.site.specs.Answers.{Answer, silence, refused}
use Rattle.refusing.specs.Tests.{are_sound, can_begin, tests_of}
use Rattle.refusing.specs.laws.Parts.{given_tests, cut-event, cut-turn, cut-act, cut-tick, start-alone}
use Rattle.effects.specs.Effects.{with_made, with_down, with_breaker, only_ack, started_site, made_later, ticked, act, commanded, turned, effect_of}
use Rattle.effects.specs.declared.Noted.{Noted}
use Rattle.effects.specs.declared.Turned.{Turned}
use Rattle.effects.specs.laws.Parts.{noted_of, turned_of}
use Rattle.stepping.specs.Steps.{decided, stepped}
use Rattle.stepping.specs.laws.StepLaws.{when-refused, when-done}

-- a step other than a Start
unfoldable pub given : Bool → Site → Node → Step → Out
given sound site node step = decided (refusal (given_tests sound site node step)) (effect_of site node step) site node

-- ---- the parts

-- what is given of an answer that is done
abbrev done_with : {A : Type 0} → Answer → A → Result A Refusal
done_with (Ok sent) a = Ok a
done_with (Err refusal) a = Err refusal

abbrev shares_in : Answer → Pairs
shares_in (Ok sent) = sent.shares
shares_in (Err refusal) = Zero

abbrev commands_in : Answer → Pairs
commands_in (Ok sent) = sent.commands
commands_in (Err refusal) = Zero

abbrev pub tick_part : Out → Result Store Refusal
tick_part out = done_with out.answer out.site.made

abbrev pub node_part : Out → Result Noted Refusal
node_part out =
    done_with out.answer
    (record { node = out.node; made = out.site.made; shares = shares_in out.answer; commands = commands_in out.answer })

abbrev pub life_part : Out → Result Turned Refusal
life_part out = done_with out.answer (record { down = out.site.down; node = out.node })

abbrev pub breaker_part : Out → Result Breaker Refusal
breaker_part out = done_with out.answer out.site.breaker

-- ---- what the refusal decides

module _ (sound : Bool) (site : Site) (node : Node) (step : Step) where
  abbrev of_tests : Result (Unit {0}) Refusal
  of_tests = refusal (given_tests sound site node step)

  -- refused, and done
  pub given-refused : (fault : Refusal) → Err fault ≡ of_tests → given sound site node step ≡ refused fault site node
  unfolding given
  given-refused fault e = sym (when-refused of_tests (effect_of site node step) site node e)

  pub given-done : {u : Unit {0}} → Ok u ≡ of_tests → given sound site node step ≡ effect_of site node step
  unfolding given
  given-done e = sym (when-done of_tests (effect_of site node step) site node e)

  -- what holds of the effect and of each refusal holds of it
  pub by-given : (P : Out → Type 0) → (of_tests ≡ Ok tt → P (effect_of site node step)) → ((fault : Refusal) → P (refused fault site node)) → P (given sound site node step)
  unfolding given
  by-given P done fails = go of_tests refl
    where
      go : (answer : Result (Unit {0}) Refusal) → of_tests ≡ answer → P (decided answer (effect_of site node step) site node)
      go (Ok tt) e = done e
      go (Err fault) e = fails fault

-- ---- the parts of a step that is refused, and of one that is done

module _ (sound : Bool) (site : Site) (node : Node) where
  pub tick-refused : (fault : Refusal) → Err fault ≡ refusal (given_tests sound site node Tick) → Err fault ≡ tick_part (given sound site node Tick)
  tick-refused fault is = sym (ap tick_part (given-refused sound site node Tick fault is))

  pub tick-done : {u : Unit {0}} → Ok u ≡ refusal (given_tests sound site node Tick) → Ok (made_later site.made) ≡ tick_part (given sound site node Tick)
  unfolding effect_of ticked
  tick-done is = sym (ap tick_part (given-done sound site node Tick is))

  module _ (i : ℕ) (t : Dts) (event : Event) where
    pub node-refused : (fault : Refusal) → Err fault ≡ refusal (given_tests sound site node (AtNode i t event))
        → Err fault ≡ node_part (given sound site node (AtNode i t event))
    node-refused fault is = sym (ap node_part (given-refused sound site node (AtNode i t event) fault is))

    pub node_done : {u : Unit {0}} → Ok u ≡ refusal (given_tests sound site node (AtNode i t event))
        → Ok (noted_of site node i t event) ≡ node_part (given sound site node (AtNode i t event))
    unfolding effect_of act
    node_done is = sym (ap node_part (given-done sound site node (AtNode i t event) is))

  module _ (i : ℕ) (turn : Turn) where
    pub life-refused : (fault : Refusal) → Err fault ≡ refusal (given_tests sound site node (Life i turn)) → Err fault ≡ life_part (given sound site node (Life i turn))
    life-refused fault is = sym (ap life_part (given-refused sound site node (Life i turn) fault is))

    pub life-done : {u : Unit {0}} → Ok u ≡ refusal (given_tests sound site node (Life i turn))
        → Ok (turned_of site.down i turn) ≡ life_part (given sound site node (Life i turn))
    unfolding effect_of turned
    life-done is = by turn ∙ sym (ap life_part (given-done sound site node (Life i turn) is))
      where
        by : (turn : Turn) → Ok (turned_of site.down i turn) ≡ life_part (turned site i turn)
        by Down = refl
        by Up = refl

  module _ (t : Dts) (command : Act) where
    pub breaker-refused : (fault : Refusal) → Err fault ≡ refusal (given_tests sound site node (AtBreaker t command))
        → Err fault ≡ breaker_part (given sound site node (AtBreaker t command))
    breaker-refused fault is = sym (ap breaker_part (given-refused sound site node (AtBreaker t command) fault is))

    pub breaker-done : {u : Unit {0}} → Ok u ≡ refusal (given_tests sound site node (AtBreaker t command))
        → Ok (after_command site.breaker t command.status command.stamp) ≡ breaker_part (given sound site node (AtBreaker t command))
    unfolding effect_of commanded
    breaker-done is = sym (ap breaker_part (given-done sound site node (AtBreaker t command) is))

-- ---- a whole step from its part

abbrev pub of_tick : Site → Node → Result Store Refusal → Out
of_tick site node (Ok made) = record { answer = Ok silence; site = with_made site made; node = node }
of_tick site node (Err fault) = refused fault site node

abbrev pub of_node : Site → Node → Result Noted Refusal → Out
of_node site node (Ok p) = record { answer = Ok (record { shares = p.shares; commands = p.commands; ack = None }); site = with_made site p.made; node = p.node }
of_node site node (Err fault) = refused fault site node

abbrev pub of_life : Site → Node → Result Turned Refusal → Out
of_life site node (Ok p) = record { answer = Ok silence; site = with_down site p.down; node = p.node }
of_life site node (Err fault) = refused fault site node

abbrev pub of_breaker : Site → Node → Result Breaker Refusal → Out
of_breaker site node (Ok breaker) = record { answer = Ok (only_ack breaker.pair); site = with_breaker site breaker; node = node }
of_breaker site node (Err fault) = refused fault site node

module _ (site : Site) (node : Node) where
  module _ (sound : Bool) where
    tick-whole : of_tick site node (tick_part (given sound site node Tick)) ≡ given sound site node Tick
    unfolding effect_of ticked
    tick-whole = by-given sound site node Tick (λ out. of_tick site node (tick_part out) ≡ out) (λ e. refl) (λ fault. refl)

    node-whole : (i : ℕ) (t : Dts) (event : Event) → of_node site node (node_part (given sound site node (AtNode i t event))) ≡ given sound site node (AtNode i t event)
    unfolding effect_of act
    node-whole i t event = by-given sound site node (AtNode i t event) (λ out. of_node site node (node_part out) ≡ out) (λ e. refl) (λ fault. refl)

    life-whole : (i : ℕ) (turn : Turn) → of_life site node (life_part (given sound site node (Life i turn))) ≡ given sound site node (Life i turn)
    unfolding effect_of turned
    life-whole i turn = by-given sound site node (Life i turn) (λ out. of_life site node (life_part out) ≡ out) (λ e. done turn) (λ fault. refl)
      where
        done : (turn : Turn) → of_life site node (life_part (turned site i turn)) ≡ turned site i turn
        done Down = refl
        done Up = refl

    breaker-whole : (t : Dts) (command : Act) → of_breaker site node (breaker_part (given sound site node (AtBreaker t command))) ≡ given sound site node (AtBreaker t command)
    unfolding effect_of commanded
    breaker-whole t command =
        by-given sound site node (AtBreaker t command) (λ out. of_breaker site node (breaker_part out) ≡ out) (λ e. refl) (λ fault. refl)

-- ---- with the verdict of its own tests

module _ (site : Site) (lent : ℕ) (node : Node) (sound : Bool) where
  abbrev Same : Step → Type 0
  Same step = sound ≡ are_sound site lent node (named step) → given sound site node step ≡ stepped site lent node step

  by-cut : (step : Step) → refusal (given_tests sound site node step) ≡ refusal (tests_of site lent node step) → given sound site node step ≡ stepped site lent node step
  unfolding given stepped
  by-cut step e = ap (λ (answer : Result (Unit {0}) Refusal). decided answer (effect_of site node step) site node) e

  tick-same : Same Tick
  tick-same is = by-cut Tick (cut-tick site lent node sound is)

  node-same : (i : ℕ) (t : Dts) (event : Event) → Same (AtNode i t event)
  node-same i t event is = by-cut (AtNode i t event) (cut-event site lent node i t event sound is)

  life-same : (i : ℕ) (turn : Turn) → Same (Life i turn)
  life-same i turn is = by-cut (Life i turn) (cut-turn site lent node i turn sound is)

  breaker-same : (t : Dts) (command : Act) → Same (AtBreaker t command)
  breaker-same t command is = by-cut (AtBreaker t command) (cut-act site lent node t command sound is)

  -- where no node acts, 16 asks for the site alone
  of-site : sound ≡ site_sound site lent → sound ≡ (site_sound site lent && true)
  of-site is = is ∙ sym (and-true (site_sound site lent))

  -- the step from its part
  pub tick-stepped : sound ≡ site_sound site lent → (part : Result Store Refusal) → part ≡ tick_part (given sound site node Tick)
      → of_tick site node part ≡ stepped site lent node Tick
  tick-stepped is part e = ap (of_tick site node) e ∙ tick-whole site node sound ∙ tick-same (of-site is)

  pub node-stepped : (i : ℕ) (t : Dts) (event : Event) → sound ≡ (site_sound site lent && actor_sound site node i) → (part : Result Noted Refusal)
      → part ≡ node_part (given sound site node (AtNode i t event)) → of_node site node part ≡ stepped site lent node (AtNode i t event)
  node-stepped i t event is part e = ap (of_node site node) e ∙ node-whole site node sound i t event ∙ node-same i t event is

  pub life-stepped : (i : ℕ) (turn : Turn) → sound ≡ (site_sound site lent && actor_sound site node i) → (part : Result Turned Refusal)
      → part ≡ life_part (given sound site node (Life i turn)) → of_life site node part ≡ stepped site lent node (Life i turn)
  life-stepped i turn is part e = ap (of_life site node) e ∙ life-whole site node sound i turn ∙ life-same i turn is

  pub breaker-stepped : (t : Dts) (command : Act) → sound ≡ site_sound site lent → (part : Result Breaker Refusal)
      → part ≡ breaker_part (given sound site node (AtBreaker t command)) → of_breaker site node part ≡ stepped site lent node (AtBreaker t command)
  breaker-stepped t command is part e = ap (of_breaker site node) e ∙ breaker-whole site node sound t command ∙ breaker-same t command (of-site is)

-- ---- a Start

module _ (site : Site) (lent : ℕ) (node : Node) (b : Beginning) where
  pub start-refused : (fault : Refusal) → Err fault ≡ refusal ((BadStart, can_begin lent b) ∷ []) → refused fault site node ≡ stepped site lent node (Start b)
  unfolding stepped
  start-refused fault is = when-refused _ (effect_of site node (Start b)) site node (is ∙ start-alone site lent node b)

  pub start-done : {u : Unit {0}} → Ok u ≡ refusal ((BadStart, can_begin lent b) ∷ [])
      → record { answer = Ok silence; site = started_site b; node = node } ≡ stepped site lent node (Start b)
  unfolding stepped effect_of
  start-done is = when-done _ (effect_of site node (Start b)) site node (is ∙ start-alone site lent node b)
