-- What an accepted message makes of the breaker and of the messages that it holds (§3 of 02).
use Rattle.std.specs.Prelude.{ℕ, cond, eqb, Some, None}
use Rattle.time.specs.declared.Dts.{Dts}
use Rattle.senders.specs.Masks.{enough}
use Rattle.store.specs.declared.Store.{Store}
use Rattle.store.specs.Store.{put, moved_to}
use Rattle.pooling.specs.declared.Pool.{Pool}
use Rattle.pooling.specs.Pooling.{pooled}
use Rattle.breaker.specs.declared.Breaker.{Breaker}
use Rattle.breaker.specs.Breaker.{answered, changed}
use Rattle.arbiter_steps.specs.declared.Message.{Message}
use Rattle.arbiter_breaker.specs.declared.Arbitrated.{Arbitrated}

-- "the action it doesn't have"
unfoldable pub other : ℕ → ℕ
other status = cond (eqb status 0) 1 0

-- "The breaker accepts a message by the rules of Deliver": stamps no longer fresh at t are forgotten, and the message is held
unfoldable pub received : Store → Dts → Message → Store
received held t m = put (moved_to held t) m.sender m.status m.stamp

-- the senders held for that action, "over all its fresh stamps above its own stamp taken together", and the latest of those stamps
abbrev pub asking : Breaker → Store → Pool
asking breaker held = pooled held (other breaker.pair.status) breaker.pair.stamp

-- "Its stamp becomes the largest of t and the stamps counted": as in 01, of t and the stamp by which it changes, the latest counted
abbrev pub changed_by : Breaker → Store → Dts → Breaker
changed_by breaker held t = changed breaker t (other breaker.pair.status) (asking breaker held).latest

-- "At the end of each accepted message it changes, acks and remembers as in 01 when at least f+1 distinct senders are held". In any other case its clock is t, and
-- nothing else moves.
unfoldable pub decided : Breaker → Store → ℕ → Dts → Arbitrated
decided breaker held f t =
    cond (enough (asking breaker held).senders f)
    (record { breaker = changed_by breaker held t; held = held; ack = Some (changed_by breaker held t).pair })
    (record { breaker = answered breaker t; held = held; ack = None })

unfoldable pub arbitrated : Breaker → Store → ℕ → Dts → Message → Arbitrated
arbitrated breaker held f t m = decided breaker (received held t m) f t
