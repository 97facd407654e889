-- U2's claim of the way back is `record_had_back`.
use Rattle.call_lists.proofs.RecordsShown.{record_had_back}
use Rattle.call_lists.proofs.record_back.Goals as goal

pub returns : goal.returns
returns c = record_had_back
