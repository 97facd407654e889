-- What the harness hands over as a number: `unknown`, and bits of a number.
use Rattle.std.specs.Prelude.{ℕ, ◌/◌, ◌%◌, Bool, eqb}

-- the answer where a number stands for nothing
abbrev pub unknown : ℕ
unknown = 0xffff_ffff

-- whether the bit of a power of two is set
abbrev pub bit : ℕ → ℕ → Bool
bit n power = eqb (n / power % 2) 1
