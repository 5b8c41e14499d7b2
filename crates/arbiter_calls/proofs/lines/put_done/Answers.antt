use Rattle.arbiter_calls.specs.laws.CallLaws.{done-one}
use Rattle.arbiter_calls.proofs.lines.put_done.Goals as goal

pub returns-in-One : goal.returns-in-One
returns-in-One c = done-one _ _ _ _ c.args.sent _ _ _ _ c.in-One.is c.put_message.ensures
