use Rattle.stepping.proofs.step.Goals as goal

pub returns-in-Start : goal.returns-in-Start
returns-in-Start c = rw c.in-Start.is c.start.ensures

pub returns-in-Tick : goal.returns-in-Tick
returns-in-Tick c = rw c.in-Tick.is c.tick.ensures

pub returns-in-AtNode : goal.returns-in-AtNode
returns-in-AtNode c = rw c.in-AtNode.is c.at_node.ensures

pub returns-in-Life : goal.returns-in-Life
returns-in-Life c = rw c.in-Life.is c.life.ensures

pub returns-in-AtBreaker : goal.returns-in-AtBreaker
returns-in-AtBreaker c = rw c.in-AtBreaker.is c.at_breaker.ensures
