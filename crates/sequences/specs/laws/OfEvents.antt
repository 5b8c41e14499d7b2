-- What the history says of an event is what the event is to the node.
use Rattle.std.specs.Prelude.{ℕ, ◌<◌, ◌≡◌, refl, true, Some}
use Rattle.std.proofs.Common.{leb-true}
use Rattle.time.specs.declared.Dts.{Dts}
use Rattle.senders.specs.Masks.{room}
use Rattle.pairs.specs.Shares.{delivered_from}
use Rattle.steps.specs.declared.Event.{Event}
use Rattle.steps.specs.Named.{said_by, of_named}
use Rattle.steps.specs.laws.Naming.{if-named}
use Rattle.acting.proofs.laws.Stores.{delivered_by, Delivers}
use Rattle.site.specs.declared.Site.{Site}
use Rattle.refusing.specs.Tests.{is_status, is_node}
use Rattle.sequences.specs.History.{fresh_named}

-- the shares that it delivers
pub delivered-as-told : (t : Dts) (event : Event) (k : ℕ)
    → delivered_from k (said_by event).sender (said_by event).status (fresh_named (Some t) (said_by event).stamps) ≡ delivered_by t event k
delivered-as-told t event k = refl

-- which are of a sender and an action that there are: row 2
pub delivers : (site : Site) (event : Event) → ((k : ℕ) → is_node site k ≡ true → k < room) → of_named (said_by event).sender (is_node site) ≡ true
    → of_named (said_by event).status is_status ≡ true → Delivers event
delivers site event room_for of-sender of-status = (
  if-named (is_node site) _ room_for (said_by event).sender of-sender,
  if-named is_status _ (λ A e. leb-true A 1 e) (said_by event).status of-status,
)
