-- U1's claim is `totals_shown`.
use Rattle.call_lists.proofs.TotalsShown.{totals_shown}
use Rattle.call_lists.proofs.day_totals.Goals as goal

pub returns : goal.returns
returns c = totals_shown
