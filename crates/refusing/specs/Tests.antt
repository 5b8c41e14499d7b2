-- Document 01's table of refusals. One list of rows in the order in which they are checked, "16, then 1 for Start, then 2 to 15", each with the test
-- that has to be passed; a row that does not speak of a step is passed by it. The first test that fails gives the refusal.
use Rattle.std.specs.Prelude.{ℕ, ◌+◌, Bool, true, not, ◌&&◌, ◌||◌, List, [], ◌∷◌, eqb, leb, ltb, Option, None, Some}
use Rattle.refusals.specs.declared.Refusal.TheVariants.{BadStart, BadNumber, Compromised, WrongPhase, NotNow, ClockBack, NotFresh, NotVouchedFor, NotNew, NotAbove, NotArmed, NotRemembered, TooManyDown, LastClock, Unsound}
use Rattle.refusals.specs.Tests.{Test}
use Rattle.time.specs.declared.Dts.{Dts}
use Rattle.time.specs.Fresh.{fresh}
use Rattle.senders.specs.Masks.{is_in, size, enough, within, together}
use Rattle.store.specs.Store.{senders_of}
use Rattle.store.specs.Held.{held}
use Rattle.steps.specs.declared.Beginning.{Beginning}
use Rattle.steps.specs.declared.Step.{Step}
use Rattle.steps.specs.Named.{StepKind, tick, report, deliver, share_timeout, resend_timeout, command, ack, query, down, up, deliver_pair, Said, Named, named, is_kind, among, of_named, of_each, of_one, paired}
use Rattle.node.specs.declared.Node.{Node}
use Rattle.node.specs.declared.Phase.{Phase}
use Rattle.node.specs.declared.Phase.TheVariants.{Starting, Running, Down}
use Rattle.node.specs.Asked.{is_new, in_attempt, armed}
use Rattle.breaker.specs.Breaker.{repeats}
use Rattle.site.specs.declared.Site.{Site}
use Rattle.site.specs.Site.{nodes, n, g, most_f, most_k, first_g, last_start_g, last_g, site_sound, actor_sound}

-- ---- what the rows ask

-- "t is neither g nor g+1"
abbrev pub is_now : Site → Dts → Bool
is_now site t = eqb t.0 (g site).0 || eqb t.0 ((g site).0 + 1)

abbrev pub is_status : ℕ → Bool
is_status status = leb status 1

abbrev pub is_node : Site → ℕ → Bool
is_node site i = ltb i (n site)

-- "the compromised nodes, together with the correct nodes that have shared (A, T) since Start"
abbrev pub counted : Site → ℕ → Dts → ℕ
counted site A T = together site.compromised (senders_of site.made A T)

-- "the signature verdict is yes exactly when [they] number at least f+1"
abbrev pub verdict : Site → ℕ → Dts → Bool
verdict site A T = enough (counted site A T) site.f

-- "A compromised node may deliver any share in its own name. A correct sender's share can be delivered once made"
abbrev pub can_deliver : Site → ℕ → ℕ → Dts → Bool
can_deliver site sender A T = is_in site.compromised sender || held site.made A T sender

-- "A starting node takes Report, Ack, Query and Down." A running one takes every step at a node but Query and Up, a down one Up alone.
abbrev pub phase_takes : Phase → StepKind → Bool
phase_takes Down kind = among kind (up ∷ [])
phase_takes (Starting learned) kind = among kind (report ∷ ack ∷ query ∷ down ∷ [])
phase_takes (Running rec) kind = among kind (report ∷ deliver ∷ deliver_pair ∷ share_timeout ∷ resend_timeout ∷ ack ∷ down ∷ [])

-- a node's last accepted clock, 0 where it has none yet
abbrev pub node_clock : Node → Dts
node_clock node = node.store.clock

-- the last accepted clock of the acting node, or of the breaker where no node acts
abbrev pub last_clock : Site → Node → Option ℕ → Dts
last_clock site node (Some i) = node_clock node
last_clock site node None = site.breaker.clock

abbrev pub unless_start : Option Beginning → Bool → Bool
unless_start (Some b) test = true
unless_start None test = test

-- ---- the rows

-- 16: "any step but Start: no site started yet; a table shorter than n; a site number outside its range [..]; or the record of the acting node (for
-- Deliver, the receiver), if that node is below n"
abbrev pub are_sound : Site → ℕ → Node → Named → Bool
are_sound site lent node the = unless_start the.beginning (site_sound site lent && of_named the.actor (actor_sound site node))

-- 1: "Start: f, k, status or g out of range, a compromised number not below n, more than f compromised, table shorter than n". (The row's other
-- half, a bad interval, is discretising's.)
abbrev pub can_begin : ℕ → Beginning → Bool
can_begin lent b =
    leb b.f most_f
    && leb b.k most_k
    && is_status b.status
    && (leb first_g b.g.0 && leb b.g.0 last_start_g)
    && within b.compromised (nodes b.f b.k)
    && leb (size b.compromised) b.f
    && leb (nodes b.f b.k) lent

-- the last stamp that 32 bits hold
abbrev pub top_stamp : ℕ
top_stamp = 4_294_967_295

-- 2: "node or sender ≥ n, status above 1, back above 7"; of a pair "2 also for T equal to 4,294,967,295" (§6 of 02)
abbrev pub are_in_range : Site → Said → Bool
are_in_range site said =
    of_named said.sender (is_node site)
    && (of_named said.status is_status
    && (of_named said.back (λ back. leb back 7)
    && of_named (paired said.stamps) λ T. not (eqb T.0 top_stamp)))

-- 7: "T not fresh at t"; of a pair "7 when neither is fresh" (§6 of 02)
abbrev pub are_fresh : Option Dts → Said → Bool
are_fresh clock said = of_named clock λ t. of_one said.stamps λ T. fresh T t

-- 8: "share not made by its correct sender; for Command, verdict no"; of a pair "8 when a fresh one wasn't made" (§6 of 02)
abbrev pub are_vouched_for : Site → Option Dts → Said → Bool
are_vouched_for site clock said =
    (of_named clock λ t. of_named said.sender λ i. of_named said.status λ A. of_each said.stamps λ T. not (fresh T t) || can_deliver site i A T)
    && (not (is_kind said.kind command) || of_named said.status λ A. of_each said.stamps (verdict site A))

-- 11: "T ≤ breaker's stamp", and "only for a command that would change the status"; "10 is not given by Command from then on" (§4 of 02), and it was no
-- other step's
abbrev pub are_above : Site → Said → Bool
are_above site said =
    not (is_kind said.kind command)
    || (of_named said.status λ A. repeats site.breaker A || of_each said.stamps λ T. ltb site.breaker.pair.stamp.0 T.0)

-- 12: "timeout not armed"
abbrev pub is_timeout_armed : Node → StepKind → Bool
is_timeout_armed node kind = (not (is_kind kind share_timeout) || in_attempt node) && (not (is_kind kind resend_timeout) || armed node)

-- 13: "fewer changes than `back` + 1"
abbrev pub are_remembered : Site → Said → Bool
are_remembered site said = of_named said.back λ back. leb (back + 1) site.breaker.changes.count

-- 14: "Down: already k correct nodes down, by the site's own count"
abbrev pub may_go_down : Site → StepKind → Bool
may_go_down site kind = not (is_kind kind down) || ltb (size site.down) site.k

-- 15: "Tick when g is 1,000,000,000"
abbrev pub may_tick : Site → StepKind → Bool
may_tick site kind = not (is_kind kind tick) || not (eqb (g site).0 last_g)

-- The rows after 16, for what a step names: 3 is "the acting node (for Deliver, the receiver) is compromised", 4 "the node's phase does not take this step (Down of a down node, Up of
-- another)", 5 "t is neither g nor g+1", 6 "t is below that node's, or the breaker's, last accepted clock since it started", 9 "report not new".
abbrev pub rows_for : Site → ℕ → Node → Named → List Test
rows_for site lent node the =
    (BadStart, of_named the.beginning (can_begin lent))
    ∷ (BadNumber, of_named the.actor (is_node site) && are_in_range site the.said)
    ∷ (Compromised, of_named the.actor λ i. not (is_in site.compromised i))
    ∷ (WrongPhase, of_named the.actor λ i. phase_takes node.phase the.said.kind)
    ∷ (NotNow, of_named the.clock (is_now site))
    ∷ (ClockBack, of_named the.clock λ t. leb (last_clock site node the.actor).0 t.0)
    ∷ (NotFresh, are_fresh the.clock the.said)
    ∷ (NotVouchedFor, are_vouched_for site the.clock the.said)
    ∷ (NotNew, of_named the.said.number (is_new node))
    ∷ (NotAbove, are_above site the.said)
    ∷ (NotArmed, is_timeout_armed node the.said.kind)
    ∷ (NotRemembered, are_remembered site the.said)
    ∷ (TooManyDown, may_go_down site the.said.kind)
    ∷ (LastClock, may_tick site the.said.kind)
    ∷ []

-- .. and 16 in front of them
abbrev pub table_for : Site → ℕ → Node → Named → List Test
table_for site lent node the = (Unsound, are_sound site lent node the) ∷ rows_for site lent node the

-- the tests of a step, for a site, a number of lent records and the record of the acting node
unfoldable pub tests_of : Site → ℕ → Node → Step → List Test
tests_of site lent node step = table_for site lent node (named step)
