-- A line of document 01's sheet: the numbers of its fields, or refusal 2.
use Rattle.std.specs.Prelude.{ℕ, zero, suc, ◌+◌, ◌*◌, ◌/◌, ◌%◌, ◌^◌, ◌<◌, Bool, cond, ◌&&◌, Option, Some, None, Result, Ok, Err, List, [], ◌∷◌, ◌++◌, length, take, drop, ◌==◌, nat_le, nat_lt}
use Rattle.columns.specs.declared.line.LineError.{LineError}
use Rattle.columns.specs.declared.line.LineError.TheVariants.{Broken, NoRoom}
use Rattle.columns.specs.Field.{field_width, field_read, field_of, put}

-- "At most 130 fields"
abbrev pub line_fields : ℕ
line_fields = 130

-- a number in front of what the rest says
unfoldable pub onto : ℕ → Option (List ℕ) → Option (List ℕ)
onto n (Some ns) = Some (n ∷ ns)
onto n None = None

-- a field in front of what the rest says: "a bad field" breaks the line
unfoldable pub before : Option ℕ → Option (List ℕ) → Option (List ℕ)
before (Some n) r = onto n r
before None r = None

-- the numbers of the first k fields, where none of them is bad
unfoldable pub fields : ℕ → List ℕ → Option (List ℕ)
fields zero s = Some []
fields (suc k) s = before (field_read (take field_width s)) (fields k (drop field_width s))

-- refusal 2's other causes: "length 0, no multiple of 11, over 1,430"
unfoldable pub length_ok : ℕ → ℕ → Bool
length_ok limit n = nat_lt 0 n && (n % field_width == 0 && nat_le n (field_width * limit))

-- the numbers of a line that may have so many fields, or None where it is no sheet line
unfoldable pub read_within : ℕ → List ℕ → Option (List ℕ)
read_within limit s = cond (length_ok limit (length s)) (fields (length s / field_width) s) None

-- what a line of document 01's kinds says
abbrev pub read_line_of : List ℕ → Option (List ℕ)
read_line_of s = read_within line_fields s

-- the line of several numbers: their fields, one after the other
unfoldable pub line_of : List ℕ → List ℕ
line_of [] = []
line_of (n ∷ ns) = field_of n ++ line_of ns

-- a buffer after the fields of these numbers are written at its start: as it was where they have no room
unfoldable pub written_over : List ℕ → List ℕ → List ℕ
written_over ns out = cond (nat_lt (length out) (field_width * length ns)) out (line_of ns ++ drop (field_width * length ns) out)

-- "0..4294967295", of each number
abbrev pub InRange : List ℕ → Type 0
InRange [] = Unit
InRange (n ∷ ns) = (n < 2 ^ 32) × InRange ns

-- the answer to a reading: how many numbers, or refusal 2
abbrev pub count_answer : Option (List ℕ) → Result ℕ LineError
count_answer (Some ns) = Ok (length ns)
count_answer None = Err Broken

-- what `read_line` answers with so many places: how many numbers, refusal 2, or that the places are fewer than the fields of a line whose length is right
unfoldable pub line_answer : ℕ → List ℕ → ℕ → Result ℕ LineError
line_answer limit s places = cond (length_ok limit (length s) && nat_lt places (length s / field_width)) (Err NoRoom) (count_answer (read_within limit s))

-- a field's number in front of others: none from "a bad field" on
unfoldable pub up_to : Option ℕ → List ℕ → List ℕ
up_to (Some n) ns = n ∷ ns
up_to None ns = []

-- the numbers of the first k fields before the first bad one
unfoldable pub leading : ℕ → List ℕ → List ℕ
leading zero s = []
leading (suc k) s = up_to (field_read (take field_width s)) (leading k (drop field_width s))

-- an array with these numbers at its start, and the rest as it was
abbrev pub over : List ℕ → List ℕ → List ℕ
over ns a = ns ++ drop (length ns) a

-- an array after these numbers are put into it from place `at` on: as it was where they have no room
unfoldable pub put_over : ℕ → List ℕ → List ℕ → List ℕ
put_over at ns a = cond (nat_lt (length a) (at + length ns)) a (put a at ns)

-- the array after `read_line`: as it was where the line's length is bad or the places are too few, else the numbers before the first bad field and the rest as it was
unfoldable pub numbers_over : ℕ → List ℕ → List ℕ → List ℕ
numbers_over limit s a = cond (length_ok limit (length s) && nat_le (length s / field_width) (length a)) (over (leading (length s / field_width) s) a) a
