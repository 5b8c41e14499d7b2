use Rattle.std.proofs.Common.{ℕ, [], ◌∷◌, subst, refl, arith, length-set}
use Rattle.text.specs.Puts.{Puts, room-after}
use Rattle.text.specs.Lines.{sent_messages}
use Rattle.text.specs.laws.LineLaws.{tail_none, tail-some, length-sent}
use Rattle.text.proofs.line.Output.put_tail.Goals as goal

pub bounds-self-space : goal.bounds-self-space
bounds-self-space c =
    let s = c.args.sent in
    omega (arith, c.put_sent.ensures.text.place, room-after 160 3 c.put_sent.ensures.text (length-sent c.args.i s.shares s.commands s.ack) c.requires)

pub put_byte-requires : goal.put_byte-requires
put_byte-requires c =
    let s = c.args.sent in
    omega (arith, length-set c.put_sent.new.self.bytes.now c.args.self.now.at 32, room-after 160 3 c.put_sent.ensures.text (length-sent c.args.i s.shares s.commands s.ack) c.requires)

pub returns-then-self-space-clause-text : goal.returns-then-self-space-clause-text
returns-then-self-space-clause-text c =
    let after = c.put_nothing.new.self in
    tail_none c.args.i (sent_messages c.args.sent) c.put_sent.ensures.text c.if-self-space.true
    (subst (λ (k : ℕ). Puts c.put_sent.new.self.bytes.now k (32 ∷ 45 ∷ 10 ∷ []) after.bytes.now after.at) c.if-self-space.true c.put_nothing.ensures.text)

pub returns-else-self-space-clause-text : goal.returns-else-self-space-clause-text
returns-else-self-space-clause-text c =
    tail-some c.args.i (sent_messages c.args.sent) c.put_sent.ensures.text c.if-self-space.false (record { bytes = refl; place = refl }) c.put_byte.ensures.text
