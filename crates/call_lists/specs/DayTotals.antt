-- U1: the claim about every list of calls, that each total told is its count.
use Rattle.std.specs.Prelude.{List, ◌++◌, ◌≡◌, Some}
use Rattle.falcon_totals.specs.Counts.{counts_of}
use Rattle.falcon_core.specs.Calls.{plans, totals}
use Rattle.falcon_core.specs.Answer.{numbers_of}
use Rattle.requests.specs.ByLine.{reply_numbers}
use Rattle.call_lists.specs.Lists.{Call, accepted_request, call_step, place_at_of}

-- U1: "Line kind 7, with no further field, prints the ordinary ten fields and then the nine totals. Each total is shown equal to its count over the calls
-- since the opening, up to that limit": wherever in a list a call for the totals is accepted
abbrev pub DayTotalsShown : Type 0
DayTotalsShown =
    (here : List Call) (c : Call) →
    let s = (place_at_of here).supervisor in
    accepted_request s c ≡ Some (plans totals) →
    reply_numbers (call_step s c) ≡ numbers_of (call_step s c).answer ++ counts_of (place_at_of here).counted
