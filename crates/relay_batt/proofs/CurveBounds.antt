-- The curve is in 0..1 for every float, 0 at what is not finite, and 1 at 4.20 V.
use Rattle.std.proofs.Common.{◌≡◌, refl, ◌*◌, Bool, true, false, ◌&&◌, T, List, [], ◌∷◌, zero-le, zero-mul, le-ltb}
use Rattle.std.proofs.lemmas.Float.{le_of_lt, lt_of_not-le, le_of_not-lt, le_trans, T_from_false}
use Rattle.std.proofs.lemmas.Bool.{cond_both}
use lib.Ieee.{Float, nan, inf, fin, binary32, of_bits, up, down, add, sub, mul, div, lt, le}
use lib.Ieee.Fits.{and_l, and_r}
use lib.Ieee.Scale.{finite}
use Rattle.relay_math.specs.Small.{f32, f32_zero, f32_one, clamp_of}
use Rattle.relay_batt.specs.Bounds.{Within, all}
use Rattle.relay_batt.specs.Curve.{cell_max, sanitize_of, knots, between, walk, table_of, ocv_soc_cell_of}
use Rattle.relay_batt.specs.declared.curve.Knot.{Knot}
use Rattle.relay_math.proofs.Order.{finite_no_nan}
use Rattle.relay_batt.proofs.Bounds.{each, within_finite, sanitize_within}
use Rattle.relay_batt.proofs.NonNeg.{NonNeg, plus, nonneg, positive, nonneg_is, positive_is, positive_nonneg, nonneg_finite, sub_grows, mul_grows, div_grows, add_grows}

-- ---- the order
pub zero_le_nonneg : {x : Float} → NonNeg x → T (le f32_zero x)
unfolding of_bits lt
zero_le_nonneg {x} (plus m e) = le_of_not-lt x f32_zero (finite_no_nan x tt) (finite_no_nan f32_zero tt) (T_from_false _ (le-ltb (m * up e * 1) (0 * down e) (rw (zero-mul (down e)) zero-le)))

le_of_not_le : (v k : Float) → T (finite v) → T (finite k) → le v k ≡ false → T (le k v)
le_of_not_le v k f g e = le_of_lt k v (lt_of_not-le v k (finite_no_nan v f) (finite_no_nan k g) (T_from_false (le v k) e))

-- a finite float that is not at most 0 or more has the sign +
nonneg_above : (v : Float) {k : Float} → T (finite v) → NonNeg k → le v k ≡ false → NonNeg v
unfolding lt
nonneg_above nan f p e = absurd f
nonneg_above (inf s) f p e = absurd f
nonneg_above (fin true m e) f (plus n d) h = absurd (lt_of_not-le (fin true m e) (fin false n d) (finite_no_nan (fin true m e) tt) (finite_no_nan (fin false n d) tt) (T_from_false _ h))
nonneg_above (fin false m e) f p h = plus m e

-- ---- a segment: the line is at most its value at the end, since each operation grows with the volts
-- what is asked of two knots in a row, computed
abbrev tests : Knot → Knot → List Bool
tests a b =
    let rise = sub binary32 b.s a.s in
    let width = sub binary32 b.v a.v in
    nonneg a.v
    ∷ nonneg b.v
    ∷ nonneg a.s
    ∷ nonneg rise
    ∷ positive width
    ∷ nonneg (mul binary32 rise width)
    ∷ nonneg (div binary32 (mul binary32 rise width) width)
    ∷ nonneg (between a b b.v)
    ∷ le (between a b b.v) f32_one
    ∷ []

one_within : Within f32_zero f32_one f32_one
unfolding of_bits le
one_within = record { low = tt; high = tt }

zero_within : Within f32_zero f32_one f32_zero
unfolding of_bits le
zero_within = record { low = tt; high = tt }

segment_within : (a b : Knot) → T (all (tests a b)) → {v : Float} → NonNeg v → T (le a.v v) → T (le v b.v) → Within f32_zero f32_one (between a b v)
segment_within a b t {v} p h k =
    let rise = sub binary32 b.s a.s in
    let width = sub binary32 b.v a.v in
    let test = each (tests a b) t in
    let av = nonneg_is a.v (test 0) in
    let bv = nonneg_is b.v (test 1) in
    let wide = positive_is width (test 4) in
    let wide0 = positive_nonneg wide in
    let product = nonneg_is (mul binary32 rise width) (test 5) in
    let quotient = nonneg_is (div binary32 (mul binary32 rise width) width) (test 6) in
    let last = nonneg_is (between a b b.v) (test 7) in
    let s1 = sub_grows binary32 p bv av h k wide0 in
    let s2 = mul_grows binary32 (nonneg_is rise (test 3)) s1.good wide0 s1.under product in
    let s3 = div_grows binary32 s2.good product wide s2.under quotient in
    let s4 = add_grows binary32 (nonneg_is a.s (test 2)) s3.good quotient s3.under last in
    record { low = zero_le_nonneg s4.good; high = le_trans _ _ _ s4.under (test 8) }

-- ---- the table
abbrev good_from : Knot → List Knot → Bool
good_from a [] = true
good_from a (b ∷ l) = all (tests a b) && good_from b l

walk_within : (a : Knot) (l : List Knot) → T (good_from a l) → {v : Float} → NonNeg v → T (finite v) → T (le a.v v) → Within f32_zero f32_one (walk v a l)
unfolding walk
walk_within a [] t p f h = one_within
walk_within a (b ∷ l) t {v} p f h =
    let good : T (all (tests a b)) = and_l (all (tests a b)) (good_from b l) t in
    let at_end : NonNeg b.v = nonneg_is b.v (each (tests a b) good 1) in
    cond_both (le v b.v) _ _ (Within f32_zero f32_one) (λ e. segment_within a b good p h (rw e tt))
    (λ e. walk_within b l (and_r (all (tests a b)) (good_from b l) t) p f (le_of_not_le v b.v f (nonneg_finite at_end) e))

abbrev good_table : List Knot → Bool
good_table [] = true
good_table (a ∷ l) = nonneg a.v && good_from a l

knots_good : T (good_table knots)
unfolding knots of_bits add sub mul div le
knots_good = tt

table_within : (l : List Knot) → T (good_table l) → (v : Float) → T (finite v) → Within f32_zero f32_one (table_of l v)
unfolding table_of
table_within [] t v f = zero_within
table_within (a ∷ l) t v f =
    let start : NonNeg a.v = nonneg_is a.v (and_l (nonneg a.v) (good_from a l) t) in
    cond_both (le v a.v) _ _ (Within f32_zero f32_one) (λ e. zero_within)
    (λ e. walk_within a l (and_r (nonneg a.v) (good_from a l) t) (nonneg_above v f start e) f (le_of_not_le v a.v f (nonneg_finite start) e))

cell_finite : (v : Float) → T (finite (sanitize_of v f32_zero cell_max f32_zero))
unfolding of_bits le
cell_finite v = within_finite f32_zero cell_max _ tt tt (sanitize_within v f32_zero cell_max f32_zero tt tt tt tt)

-- the curve is in 0..1, whatever the volts are
pub curve_within : (v : Float) → Within f32_zero f32_one (ocv_soc_cell_of v)
unfolding ocv_soc_cell_of
curve_within v = table_within knots knots_good _ (cell_finite v)

-- what is not finite counts as empty
pub curve_not_finite : (v : Float) → finite v ≡ false → ocv_soc_cell_of v ≡ f32_zero
unfolding ocv_soc_cell_of sanitize_of clamp_of table_of knots of_bits lt le
curve_not_finite v e = simp e

-- the curve is exact at its last knot, 4.20 V
pub curve_420 : ocv_soc_cell_of (f32 0x4086_6666) ≡ f32_one
unfolding ocv_soc_cell_of sanitize_of clamp_of table_of walk knots of_bits lt le add sub mul div
curve_420 = refl
