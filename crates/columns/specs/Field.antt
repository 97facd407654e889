-- A field of document 01's sheet: how its bytes are read, and, apart from that, how a number is written.
use Rattle.std.specs.Prelude.{ℕ, zero, suc, ◌+◌, ◌-◌, ◌*◌, ◌/◌, ◌%◌, cond, Option, Some, None, List, [], ◌∷◌, ◌++◌, length, take, drop, replicate, ◌==◌, nat_le, nat_lt}

-- "Lines of fields eleven bytes wide"
abbrev pub field_width : ℕ
field_width = 11

-- "one decimal number 0..4294967295": one more than the largest
abbrev pub number_limit : ℕ
number_limit = 4294967296

-- the byte in front of a number's digits
abbrev pub space : ℕ
space = 32

-- a number that a field may hold, and None above
unfoldable pub in_range : ℕ → Option ℕ
in_range v = cond (nat_lt v number_limit) (Some v) None

-- decimal digits to the end, after the digits that gave v
unfoldable pub digits : ℕ → List ℕ → Option ℕ
digits v [] = in_range v
digits v (b ∷ s) = cond (nat_le 48 b) (cond (nat_le b 57) (digits (v * 10 + (b - 48)) s) None) None

-- the first byte that is no space: "no leading zeros", but for the number 0 itself
unfoldable pub first_digit : ℕ → List ℕ → Option ℕ
first_digit b [] = digits 0 (b ∷ [])
first_digit b (a ∷ s) = cond (b == 48) None (digits 0 (b ∷ a ∷ s))

-- "right-justified in spaces"
unfoldable pub spaced : List ℕ → Option ℕ
spaced [] = None
spaced (b ∷ s) = cond (b == space) (spaced s) (first_digit b s)

-- what the bytes of a field say
unfoldable pub field_read : List ℕ → Option ℕ
field_read s = cond (length s == field_width) (spaced s) None

-- "The first field is the kind": what the first eleven bytes of a line say
unfoldable pub kind_of : List ℕ → Option ℕ
kind_of line = field_read (take field_width line)

-- the last digit of what is left of a number, or a space where nothing is left
unfoldable pub column : ℕ → ℕ
column n = cond (n == 0) space (48 + n % 10)

-- the last k columns of what is left of a number
unfoldable pub columns : ℕ → ℕ → List ℕ
columns zero n = []
columns (suc k) n = columns k (n / 10) ++ (column n ∷ [])

-- the field that a number is written as
unfoldable pub field_of : ℕ → List ℕ
field_of n = columns (field_width - 1) (n / 10) ++ ((48 + n % 10) ∷ [])

-- k spaces
abbrev pub spaces : ℕ → List ℕ
spaces k = replicate k space

-- d with the bytes s from place `at` on
unfoldable pub put : List ℕ → ℕ → List ℕ → List ℕ
put d at s = take at d ++ (s ++ drop (at + length s) d)
