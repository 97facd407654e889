-- What the code of the root holds between its steps, in the numbers of Root.antt.
use Rattle.std.specs.Prelude.{ℕ, ◌*◌, ◌^◌, ◌≡◌, false, Float}
use Rattle.std.specs.Float.Ieee.{odd}
use Rattle.relay_math.specs.Root.{Exact}
use Rattle.relay_math.specs.declared.root.ExactRoot.{ExactRoot}

-- two ways to write one exact number
abbrev pub SameRoot : Exact → Exact → Type 0
SameRoot x y = x.radicand * 4 ^ y.places ≡ y.radicand * 4 ^ x.places

-- √n * 2 ^ e / 2 ^ 173
abbrev pub exact_of : ExactRoot → Exact
exact_of x = record { radicand = x.n * 4 ^ x.e; places = 173 }

-- the digits r with the exponent of x: r * 2 ^ e / 2 ^ 173
abbrev pub rounded_of : ExactRoot → ℕ → Float
rounded_of x r = odd 25 false r x.e 173
