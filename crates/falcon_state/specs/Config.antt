-- Which opening was used.
use Rattle.std.specs.Prelude.{ℕ, cond, eqb}
use Rattle.falcon_state.specs.declared.config.OpeningKind.{OpeningKind}
use Rattle.falcon_state.specs.declared.config.OpeningKind.TheVariants.{Ground, Raised}

-- the opening's number on the sheet and in the record: "1 opening", and U5: "Opening kind 10"
abbrev pub opening_number : OpeningKind → ℕ
opening_number Ground = 1
opening_number Raised = 10

-- the opening with a number, the one with 1 for every other
abbrev pub opening_or_ground : ℕ → OpeningKind
opening_or_ground n = cond (eqb n (opening_number Raised)) Raised Ground
