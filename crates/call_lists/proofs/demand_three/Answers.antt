-- Demand 3 is `demand3`.
use Rattle.call_lists.proofs.DemandThree.{demand3}
use Rattle.call_lists.proofs.demand_three.Goals as goal

pub returns : goal.returns
returns c = demand3
