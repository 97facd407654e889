-- The sheet's lines: what a line's bytes ask, or the refusal 2, 3, 4 or 5 that fits them whatever the state.
use Rattle.std.specs.Prelude.{ℕ, List, Option, Some, None, Err}
use Rattle.columns.specs.Field.{kind_of}
use Rattle.columns.specs.Line.{line_fields, read_within, numbers_over}
use Rattle.falcon_core.specs.declared.refusal.Refusal.TheVariants.{NotALine}
use Rattle.requests.specs.Kinds.{Asked, numbers_ask}

-- what a line asks once it is read: its numbers, or none
abbrev pub read_asks : Option (List ℕ) → Asked
read_asks (Some ns) = numbers_ask ns
read_asks None = Err NotALine

-- how many fields a line may have, by its kind: "At most 130 fields"
unfoldable pub limit_fields_of : Option ℕ → ℕ
limit_fields_of (Some n) = line_fields
limit_fields_of None = line_fields

-- the most fields that a line of any kind may have
abbrev pub most_fields : ℕ
most_fields = line_fields

-- the numbers of a line, or None where it is no sheet line
unfoldable pub line_numbers : List ℕ → Option (List ℕ)
line_numbers line = read_within (limit_fields_of (kind_of line)) line

-- what a line asks: 2, 3, 4 and 5 in this order
unfoldable pub line_asks : List ℕ → Asked
line_asks line = read_asks (line_numbers line)

-- the array that takes a line's numbers, after it: those before the first bad field, and behind them what stood there
unfoldable pub numbers_after : List ℕ → List ℕ → List ℕ
numbers_after line a = numbers_over (limit_fields_of (kind_of line)) line a
