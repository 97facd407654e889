-- After i turns the first i rows are there, the others are as of places that are not in use, and the places in use after the first i are left.
use Rattle.std.proofs.Common.{◌≡◌, ℕ, ◌-◌, ◌++◌, min, take, drop, replicate}
use Rattle.falcon_core.specs.SoundState.{first_of}
use Rattle.falcon_record.specs.Columns.{place_in}
use Rattle.falcon_record.proofs.rows.Given as goal

abbrev pub invariant-loop-row : goal.invariant-loop-row
invariant-loop-row g l =
    let i = l.row-index in
    (l.used.rest.now ≡ drop i (take (min g.row.N l.count) l.places))
    × (l.row-items
    ≡ first_of (λ (k : ℕ). g.T.Recorded.columns (place_in g.T.Place.empty g.T.Place.empty l.places l.count k)) i
    ++ replicate (g.row.N - i) (g.T.Recorded.columns g.T.Place.empty))
