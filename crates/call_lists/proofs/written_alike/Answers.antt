-- U2's claim of two shuttles is `written_same`.
use Rattle.call_lists.proofs.RecordsShown.{written_same}
use Rattle.call_lists.proofs.written_alike.Goals as goal

pub returns : goal.returns
returns c = written_same
