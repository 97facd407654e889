-- Volts of 0 to 60 that are at least the opening's, itself not negative, are not below it, whatever the cell count is.
use Rattle.std.proofs.Common.{◌≡◌, ℕ, zero, suc, ◌*◌, ◌^◌, ◌<◌, ◌≤◌, false, T, sym, ap, ◌∙◌, subst, le_trans, le_of_eq, zero-lt-suc, mul_assoc, mul_comm, mul-le-mul, mul-pos, zero-mul, mul-one, not-le_of_lt, arith, lit<, lit≤}
use Rattle.std.proofs.lemmas.Float.{lt_irrefl, lt_of_lt_of_le}
use lib.Dec.{eqb-suc-zero, not_T}
use lib.Ieee.Bits.{is_false}
use lib.Ieee.{Float, binary32, round, of_bits, of_int, div, lt, le}
use lib.Ieee.Fits.{down_pos}
use lib.Ieee.Order.{round_mono}
use lib.Ieee.Positive.{num, den, den_pos}
use Rattle.relay_batt.specs.Config.{cells_of, per_cell_of}
use Rattle.relay_batt.specs.Estimator.{v_max}
use Rattle.relay_batt.proofs.NonNeg.{NonNeg, plus, Positive, above, nonneg, nonneg_is, positive_is, le→cross, rounded, div_is, div_grows, num_pos}

-- ---- the cell count as a float
one_kept : NonNeg (round binary32 false 1 1)
unfolding round
one_kept = plus _ _

most_kept : NonNeg (round binary32 false (2 ^ 32) 1)
unfolding round
most_kept = plus _ _

-- finite and at least 1
record AtLeastOne (k : Float) : Type 0 where
  good : Positive k
  size : den k ≤ num k

positive_from : {k : Float} → NonNeg k → den k ≤ num k → Positive k
positive_from (plus zero e) h = absurd (not-le_of_lt (down_pos e) (simp (zero-mul) at h))
positive_from (plus (suc m) e) h = above m e

one_over : (p q : ℕ) → num (round binary32 false 1 1) * q ≤ p * den (round binary32 false 1 1) → q ≤ p
unfolding round
one_over p q h = omega arith

whole_at_least : (n : ℕ) → 0 < n → n < 2 ^ 32 → AtLeastOne (round binary32 false n 1)
whole_at_least n a b =
    let k = (rounded binary32 n 1 (2 ^ 32) 1 (lit< tt) (lit< tt) (omega arith) most_kept).good in
    let h = one_over _ _ (le→cross one_kept k (round_mono binary32 1 1 n 1 (lit< tt) (lit< tt) (omega arith))) in
    record { good = positive_from k h; size = h }

cells_at_least : (cells : ℕ) → cells < 2 ^ 32 → AtLeastOne (cells_of cells)
unfolding cells_of of_int of_bits
cells_at_least zero h = record { good = positive_is _ tt; size = lit≤ tt }
cells_at_least (suc n) h = rw (eqb-suc-zero n) (whole_at_least (suc n) (zero-lt-suc n) h)

-- ---- volts of at most 60 over it
highest_kept : NonNeg (round binary32 false 60 1)
unfolding round
highest_kept = plus _ _

-- x / p over n / d is at most y where x / p is, and n / d at least 1
over_at_least : (x p n d y : ℕ) → x ≤ y * p → d ≤ n → x * d * 1 ≤ y * (n * p)
over_at_least x p n d y h g = le_trans (le_of_eq (mul-one (x * d))) (le_trans (mul-le-mul h g) (le_of_eq (mul_assoc y p n ∙ ap (λ (z : ℕ). y * z) (mul_comm p n))))

at_most : (x p : ℕ) → x * den v_max ≤ num v_max * p → x ≤ 60 * p
unfolding of_bits
at_most x p h = omega arith

per_cell_kept : {k volts : Float} → AtLeastOne k → NonNeg volts → T (le volts v_max) → NonNeg (div binary32 volts k)
unfolding of_bits
per_cell_kept {k} {volts} a p h =
    subst (λ (z : Float). NonNeg z) (sym (div_is binary32 p a.good))
    (rounded binary32 (num volts * den k) (num k * den volts) 60 1 (mul-pos (num_pos a.good) (den_pos volts)) (lit< tt)
    (over_at_least (num volts) (den volts) (num k) (den k) 60 (at_most (num volts) (den volts) (le→cross p (nonneg_is v_max tt) h)) a.size) highest_kept).good

-- ---- the comparison
le_not_lt : (x y : Float) → T (le x y) → lt y x ≡ false
le_not_lt x y h = is_false (lt y x) (not_T (lt y x) (λ (t : T (lt y x)). lt_irrefl y (lt_of_lt_of_le y x y t h)))

-- one count divides both
pub at_least_not_below :
    (cells : ℕ) (opening volts : Float) → cells < 2 ^ 32 → T (nonneg opening) → T (nonneg volts) → T (le volts v_max) → T (le opening volts) →
    lt (per_cell_of cells volts) (per_cell_of cells opening) ≡ false
unfolding per_cell_of
at_least_not_below cells opening volts c o v m h =
    let a = cells_at_least cells c in
    let q = nonneg_is volts v in
    let z = per_cell_kept a q m in
    let k = div_grows binary32 (nonneg_is opening o) q a.good h z in
    le_not_lt _ _ k.under
