-- What a step answers: the number, what is sent, and the site and the record handed back.
use Rattle.std.specs.Prelude.{ℕ, Bool, true, false, List, [], ◌++◌, map, None, Result, Ok, Err}
use Rattle.refusals.specs.declared.Refusal.{Refusal}
use Rattle.refusals.specs.Numbers.{number}
use Rattle.pairs.specs.declared.Pair.{Pair}
use Rattle.pairs.specs.declared.Pairs.TheVariants.{Zero}
use Rattle.pairs.specs.Pair.{listed, listed_known}
use Rattle.node.specs.declared.Node.{Node}
use Rattle.site.specs.declared.Site.{Site}
use Rattle.site.specs.declared.Sent.{Sent}
use Rattle.site.specs.declared.Out.{Out}

-- what a step answers: what it sends where it is done, or why it is refused
abbrev pub Answer : Type 0
Answer = Result Sent Refusal

-- 01's number for each answer
abbrev pub number_of : Answer → ℕ
number_of (Ok sent) = 0
number_of (Err refusal) = number refusal

-- what is sent, in order: "Shares come first, by rising stamp, then a command"; an ack alone
pub data Message : Type 0 where
  Share Command Ack : Pair → Message

abbrev pub messages_of : Answer → List Message
messages_of (Ok sent) = map Share (listed sent.shares) ++ (map Command (listed sent.commands) ++ map Ack (listed_known sent.ack))
messages_of (Err refusal) = []

abbrev pub silence : Sent
silence = record { shares = Zero; commands = Zero; ack = None }

-- "Every refusal sends nothing and leaves site, table and clocks unchanged."
abbrev pub refused : Refusal → Site → Node → Out
refused refusal site node = record { answer = Err refusal; site = site; node = node }

abbrev pub done : Sent → Site → Node → Out
done sent site node = record { answer = Ok sent; site = site; node = node }

-- ---- done or refused

abbrev pub is_done : Answer → Bool
is_done (Ok sent) = true
is_done (Err refusal) = false
