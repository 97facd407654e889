-- A line of kind 1 or 10 asks an opening of its own kind, by the same fields.
use mathlib.Core.Bool.{Bool, true, false, cond}
use mathlib.Core.List.{List, ◌∷◌}
use mathlib.Core.Path.{◌≡◌, refl}
use lib.Dec.{eqb}
use lib.ListN.{length}
use Prim.Native.Nat.{ℕ}
use Rattle.std.specs.Prelude.{Ok, Err}
use Rattle.falcon_state.specs.declared.config.OpeningKind.{OpeningKind}
use Rattle.falcon_state.specs.declared.config.OpeningKind.TheVariants.{Ground, Raised}
use Rattle.falcon_state.specs.Config.{opening_number}
use Rattle.falcon_state.specs.declared.flight.Opening.{Opening}
use Rattle.falcon_core.specs.Calls.{opens}
use Rattle.falcon_core.specs.declared.refusal.Refusal.TheVariants.{WrongCount, OutOfRange}
use Rattle.requests.specs.Kinds.{Asked, is_flag_of, opening_from_of, opening_line_of, kind_at, numbers_ask}

-- what is asked, by an opening of this kind where it is an opening
abbrev pub by_opening : OpeningKind → Asked → Asked
by_opening kind (Ok (opens o)) = Ok (opens (record o { opening_kind = kind }))
by_opening kind a = a

-- with the same fields in range the openings differ in their kind, and any other line is refused alike
opening_by :
    (counted ranges : Bool) (o : Opening) (kind : OpeningKind)
    → cond counted (cond ranges (Ok (opens (record o { opening_kind = kind }))) (Err OutOfRange)) (Err WrongCount)
    ≡ by_opening kind (cond counted (cond ranges (Ok (opens o)) (Err OutOfRange)) (Err WrongCount))
opening_by true true o kind = refl
opening_by true false o kind = refl
opening_by false ranges o kind = refl

-- U5: "Opening kind 10 has the fields of kind 1": whatever stands behind the kind, the line asks what that of kind 1 asks, by an opening of its own kind
pub opening_asks : (kind : OpeningKind) (ns : List ℕ) → numbers_ask (opening_number kind ∷ ns) ≡ by_opening kind (numbers_ask (opening_number Ground ∷ ns))
unfolding numbers_ask kind_at opening_line_of opening_from_of
opening_asks Ground ns =
    let line : List ℕ = opening_number Ground ∷ ns in
    opening_by (eqb (length line) 10) (is_flag_of line 9) (opening_from_of Ground line) Ground
opening_asks Raised ns =
    let line : List ℕ = opening_number Ground ∷ ns in
    opening_by (eqb (length line) 10) (is_flag_of line 9) (opening_from_of Ground line) Raised
