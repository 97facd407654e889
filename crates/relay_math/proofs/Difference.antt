-- A finite number less itself is zero.
use Prim.Native.Nat.{ℕ, zero, suc, ◌*◌, ◌<◌}
use Prim.Native.Nat.compare
use native.Mathlib.Nat.{mul-pos}
use native.Mathlib.Omega.{arith}
use mathlib.Core.Bool.{Bool, true, false, not}
use mathlib.Core.Path.{◌≡◌, refl}
use lib.Dec.{T}
use lib.IntN.{ℤ, pos, negsuc}
use lib.Ieee.{Float, nan, inf, fin, binary32, up, down, size, span, climb, round, units, odd, sum, neg, add, sub, of_bits}
use lib.Ieee.Scale.{finite}
use borrow.Author.Tests.{le-ltb}
use Rattle.std.proofs.Math.Nat.{zero-div, zero-mod, mul-one, sub_self, le_refl}
use Rattle.std.proofs.lemmas.Nat.{pow_pos}
use Rattle.relay_math.specs.Small.{f32_zero}

round_zero : (c : ℕ) → 0 < c → round binary32 false 0 c ≡ f32_zero
unfolding round units odd size span climb of_bits
round_zero zero h = absurd (omega (arith, h))
round_zero (suc c) h = simp (zero-div, zero-mod, mul-one, compare.zero-suc) refl

sum_zero : (s : Bool) (a c : ℕ) → 0 < c → sum binary32 s a (not s) a c ≡ f32_zero
unfolding sum
sum_zero true a c h = simp (le-ltb a a (le_refl a), sub_self a, round_zero c h)
sum_zero false a c h = simp (le-ltb a a (le_refl a), sub_self a, round_zero c h)

down_above : (e : ℤ) → 0 < down e * down e
down_above (pos k) = omega arith
down_above (negsuc k) = mul-pos (pow_pos (suc k)) (pow_pos (suc k))

pub difference_zero : (x : Float) → T (finite x) → sub binary32 x x ≡ f32_zero
unfolding sub add neg
difference_zero nan h = absurd h
difference_zero (inf s) h = absurd h
difference_zero (fin s m e) h = sum_zero s (m * up e * down e) (down e * down e) (down_above e)
