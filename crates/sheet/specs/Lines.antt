-- The sheet's lines: how bytes part into them, and what is kept of a line begun.
use Rattle.std.specs.Prelude.{Option, Some, None, ℕ, zero, suc, ◌+◌, ◌*◌, cond, List, [], ◌∷◌, ◌++◌, eqb, ltb, length, take, drop}
use Rattle.std.proofs.Math.Seq.{slice}
use Rattle.columns.specs.Field.{field_width}
use Rattle.requests.specs.Parse.{most_fields}

abbrev pub newline : ℕ
newline = 10

-- a byte put in front of the first line, where there is one
unfoldable pub byte_in_front : ℕ → List (List ℕ) → List (List ℕ)
byte_in_front b [] = []
byte_in_front b (l ∷ ls) = (b ∷ l) ∷ ls

-- the lines that a newline ends, each without it
unfoldable pub whole_lines : List ℕ → List (List ℕ)
whole_lines [] = []
whole_lines (b ∷ s) = cond (eqb b newline) ([] ∷ whole_lines s) (byte_in_front b (whole_lines s))

-- lines with a newline after each
unfoldable pub joined_lines : List (List ℕ) → List ℕ
joined_lines [] = []
joined_lines (l ∷ ls) = l ++ (newline ∷ joined_lines ls)

-- what stands behind the last newline: a line begun, with no newline yet
unfoldable pub line_begun : List ℕ → List ℕ
line_begun s = drop (length (joined_lines (whole_lines s))) s

-- "a last line without newline too"; "A newline at the very end begins no further line"
unfoldable pub last_line : List ℕ → List (List ℕ)
last_line [] = []
last_line (b ∷ s) = (b ∷ s) ∷ []

-- the lines of an input; "input of no bytes has no line"
unfoldable pub lines_of : List ℕ → List (List ℕ)
lines_of s = whole_lines s ++ last_line (line_begun s)

-- how many bytes stand before the first newline, or at all where there is none
unfoldable pub line_end : List ℕ → ℕ
line_end [] = zero
line_end (b ∷ s) = cond (eqb b newline) zero (suc (line_end s))

-- the place of the first newline from place `from` on, where there is one
unfoldable pub newline_at : List ℕ → ℕ → Option ℕ
newline_at l from = cond (ltb (from + line_end (drop from l)) (length l)) (Some (from + line_end (drop from l))) None

-- the bytes of a line begun that are kept from one read to the next: one more than a line of any kind may have
abbrev pub kept_width : ℕ
kept_width = field_width * most_fields + 1

-- what is kept of the bytes from place `from` to place `have`
unfoldable pub kept_bytes_of : List ℕ → ℕ → ℕ → List ℕ
kept_bytes_of l from have = take kept_width (slice from have l)
