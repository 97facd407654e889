-- Of finite floats with the sign +, zero included, the order is that of fractions, and differences, products, quotients and sums grow with
-- one operand as long as the larger result is finite.
use Rattle.std.proofs.Common.{◌≡◌, ℕ, zero, suc, ◌+◌, ◌-◌, ◌*◌, ◌^◌, ◌<◌, ◌≤◌, Bool, true, false, cond, not, ◌&&◌, ◌||◌, T, eqb, ltb, ℤ, sym, refl, ◌∙◌, subst, le_trans, le_of_eq, le_of_lt, mul-le-mul_right, zero-lt-suc, mul_assoc, mul_comm, add-mul, mul-pos, not-le_of_lt, mul_left_comm, arith, eqb→eq, ltb→lt}
use native.Mathlib.Nat.{mul-sub, mul-mul-mul_comm}
use lib.Dec.{eqb-suc-zero}
use lib.Ieee.{Float, nan, inf, fin, Format, prec, low, up, down, odd, units, round, sum, add, sub, mul, div, le}
use lib.Ieee.Fits.{up_pos, down_pos, and_l, round_is}
use lib.Ieee.Order.{round_mono, drop, kept}
use lib.Ieee.Positive.{num, den, den_pos}
use lib.Ieee.Scale.{finite, overflow}
use Rattle.std.proofs.lemmas.Float.{le_trans as le_trans_float}

pub data NonNeg : Float → Type 0 where
  plus : (m : ℕ) (e : ℤ) → NonNeg (fin false m e)

pub data Positive : Float → Type 0 where
  above : (m : ℕ) (e : ℤ) → Positive (fin false (suc m) e)

abbrev pub nonneg : Float → Bool
nonneg nan = false
nonneg (inf s) = false
nonneg (fin s m e) = not s

abbrev pub positive : Float → Bool
positive nan = false
positive (inf s) = false
positive (fin s zero e) = false
positive (fin s (suc m) e) = not s

pub nonneg_is : (x : Float) → T (nonneg x) → NonNeg x
nonneg_is nan t = absurd t
nonneg_is (inf s) t = absurd t
nonneg_is (fin true m e) t = absurd t
nonneg_is (fin false m e) t = plus m e

pub positive_is : (x : Float) → T (positive x) → Positive x
positive_is nan t = absurd t
positive_is (inf s) t = absurd t
positive_is (fin s zero e) t = absurd t
positive_is (fin true (suc m) e) t = absurd t
positive_is (fin false (suc m) e) t = above m e

pub positive_nonneg : {x : Float} → Positive x → NonNeg x
positive_nonneg (above m e) = plus (suc m) e

pub nonneg_finite : {x : Float} → NonNeg x → T (finite x)
nonneg_finite (plus m e) = tt

-- ---- the order
pub le→cross : {x y : Float} → NonNeg x → NonNeg y → T (le x y) → num x * den y ≤ num y * den x
unfolding le
le→cross (plus m e) (plus n d) h = le_of_test (m * up e * down d) (n * up d * down e) h
  where
    le_of_test : (a b : ℕ) → T (ltb a b || (eqb a b && true)) → a ≤ b
    le_of_test a b t = go (ltb a b) (ltb→lt a b) t
      where
        go : (c : Bool) → (T c → a < b) → T (c || (eqb a b && true)) → a ≤ b
        go true l u = le_of_lt (l tt)
        go false l u = le_of_eq (eqb→eq a b (and_l (eqb a b) true u))

-- ---- a fraction rounded with the sign +
odd_nonneg : (d q k l : ℕ) → NonNeg (odd d false q k l)
unfolding odd
odd_nonneg d zero k l = plus _ _
odd_nonneg d (suc q) k l = plus _ _

units_nonneg : (f : Format) (q k : ℕ) {y : Float} → NonNeg y → T (le (units f false q k) y) → NonNeg (units f false q k)
unfolding units le
units_nonneg f q k (plus n d) = go (ltb (q * 2 ^ k) (overflow f))
  where
    go : (b : Bool) → T (le (cond b (odd (suc (prec f)) false q k (low f)) (inf false)) (fin false n d)) → NonNeg (cond b (odd (suc (prec f)) false q k (low f)) (inf false))
    go true h = odd_nonneg (suc (prec f)) q k (low f)
    go false h = absurd h

round_nonneg : (f : Format) (a c : ℕ) {y : Float} → NonNeg y → T (le (round f false a c) y) → NonNeg (round f false a c)
round_nonneg f a c {y} p h =
    let l = 2 ^ low f in
    let e = round_is f false a c in
    subst (λ (z : Float). NonNeg z) (sym e) (units_nonneg f (kept (prec f) (a * l) c) (drop (prec f) (a * l) c) p (subst (λ (z : Float). T (le z y)) e h))

-- the smaller of two results: below the larger, and finite with the sign + as that is
pub record Kept (x y : Float) : Type 0 where
  pub under : T (le x y)
  pub good : NonNeg x

pub rounded : (f : Format) (a c b d : ℕ) → 0 < c → 0 < d → a * d ≤ b * c → NonNeg (round f false b d) → Kept (round f false a c) (round f false b d)
rounded f a c b d C D h g = let u = round_mono f a c b d C D h in record { under = u; good = round_nonneg f a c g u }

-- ---- the operations
times : (k l x y p q : ℕ) → x * q ≤ y * p → k * x * (l * q) ≤ k * y * (l * p)
times k l x y p q h = le_trans (le_of_eq (mul-mul-mul_comm k x l q)) (le_trans (mul_le k l h) (le_of_eq (sym (mul-mul-mul_comm k y l p))))
  where
    mul_le : (k l : ℕ) → x * q ≤ y * p → k * l * (x * q) ≤ k * l * (y * p)
    mul_le k l g = le_trans (le_of_eq (mul_comm (k * l) (x * q))) (le_trans (mul-le-mul_right (k * l) g) (le_of_eq (mul_comm (y * p) (k * l))))

pub mul_grows : (f : Format) {k x y : Float} → NonNeg k → NonNeg x → NonNeg y → T (le x y) → NonNeg (mul f k y) → Kept (mul f k x) (mul f k y)
unfolding mul
mul_grows f (plus m e) (plus n d) (plus o g) h z =
    rounded f (m * up e * (n * up d)) (down e * down d) (m * up e * (o * up g)) (down e * down g) (mul-pos (down_pos e) (down_pos d)) (mul-pos (down_pos e) (down_pos g))
    (times (m * up e) (down e) (n * up d) (o * up g) (down d) (down g) (le→cross (plus n d) (plus o g) h)) z

sum_minus : (f : Format) (a b c : ℕ) → b ≤ a → sum f false a true b c ≡ round f false (a - b) c
unfolding sum
sum_minus f a b c h = go (ltb a b) (ltb→lt a b)
  where
    go : (t : Bool) → (T t → a < b) → cond t (round f true (b - a) c) (round f false (a - b) c) ≡ round f false (a - b) c
    go true k = absurd (not-le_of_lt (k tt) h)
    go false k = refl

sub_is : (f : Format) {x k : Float} → NonNeg x → NonNeg k → T (le k x) → sub f x k ≡ round f false (num x * den k - num k * den x) (den x * den k)
unfolding sub
sub_is f (plus m e) (plus n d) h = sum_minus f (m * up e * down d) (n * up d * down e) (down e * down d) (le→cross (plus n d) (plus m e) h)

fewer : (p q r s : ℕ) → p ≤ r → s ≡ q → p - q ≤ r - s
fewer p q r s h e = omega arith

-- x / p - k / l ≤ y / q - k / l for x / p ≤ y / q
minus : (x p y q k l : ℕ) → x * q ≤ y * p → (x * l - k * p) * (q * l) ≤ (y * l - k * q) * (p * l)
minus x p y q k l h =
    let a : q * l * (x * l) ≤ p * l * (y * l) = simp (mul_assoc, mul_left_comm) (simp (mul_assoc, mul_comm) at (mul-le-mul_right (l * l) h)) in
    let b : p * l * (k * q) ≡ q * l * (k * p) = simp (mul_assoc, mul_comm, mul_left_comm) in
    le_trans (le_of_eq (mul_comm (x * l - k * p) (q * l) ∙ mul-sub (q * l) (x * l) (k * p)))
    (le_trans (fewer (q * l * (x * l)) (q * l * (k * p)) (p * l * (y * l)) (p * l * (k * q)) a b)
    (le_of_eq (sym (mul_comm (y * l - k * q) (p * l) ∙ mul-sub (p * l) (y * l) (k * q)))))

pub sub_grows : (f : Format) {x y k : Float} → NonNeg x → NonNeg y → NonNeg k → T (le k x) → T (le x y) → NonNeg (sub f y k) → Kept (sub f x k) (sub f y k)
sub_grows f {x} {y} {k} p q r g h z =
    let b = sub_is f q r (le_trans_float _ _ _ g h) in
    subst (λ (w : Float). Kept w (sub f y k)) (sym (sub_is f p r g))
    (subst (λ (w : Float). Kept (round f false (num x * den k - num k * den x) (den x * den k)) w) (sym b)
    (rounded f (num x * den k - num k * den x) (den x * den k) (num y * den k - num k * den y) (den y * den k) (mul-pos (den_pos x) (den_pos k)) (mul-pos (den_pos y) (den_pos k))
    (minus (num x) (den x) (num y) (den y) (num k) (den k) (le→cross p q h)) (subst (λ (w : Float). NonNeg w) b z)))

pub div_is : (f : Format) {x k : Float} → NonNeg x → Positive k → div f x k ≡ round f false (num x * den k) (num k * den x)
unfolding div
div_is f (plus m e) (above n d) = rw (eqb-suc-zero n)

pub num_pos : {k : Float} → Positive k → 0 < num k
num_pos (above n d) = mul-pos (zero-lt-suc n) (up_pos d)

over : (x p y q n d : ℕ) → x * q ≤ y * p → x * d * (n * q) ≤ y * d * (n * p)
over x p y q n d h = simp (mul_assoc, mul_comm, mul_left_comm) (simp (mul_assoc, mul_comm) at (mul-le-mul_right (d * n) h))

pub div_grows : (f : Format) {x y k : Float} → NonNeg x → NonNeg y → Positive k → T (le x y) → NonNeg (div f y k) → Kept (div f x k) (div f y k)
div_grows f {x} {y} {k} p q r h z =
    let b = div_is f q r in
    subst (λ (w : Float). Kept w (div f y k)) (sym (div_is f p r))
    (subst (λ (w : Float). Kept (round f false (num x * den k) (num k * den x)) w) (sym b)
    (rounded f (num x * den k) (num k * den x) (num y * den k) (num k * den y) (mul-pos (num_pos r) (den_pos x)) (mul-pos (num_pos r) (den_pos y))
    (over (num x) (den x) (num y) (den y) (num k) (den k) (le→cross p q h)) (subst (λ (w : Float). NonNeg w) b z)))

add_is : (f : Format) {k x : Float} → NonNeg k → NonNeg x → add f k x ≡ round f false (num k * den x + num x * den k) (den k * den x)
unfolding add sum
add_is f (plus m e) (plus n d) = refl

-- k / l + x / p ≤ k / l + y / q for x / p ≤ y / q
more : (k l x p y q : ℕ) → x * q ≤ y * p → (k * p + x * l) * (l * q) ≤ (k * q + y * l) * (l * p)
more k l x p y q h =
    let a : k * p * (l * q) ≡ k * q * (l * p) = simp (mul_assoc, mul_comm, mul_left_comm) in
    let b : x * l * (l * q) ≤ y * l * (l * p) = simp (mul_assoc, mul_comm, mul_left_comm) (simp (mul_assoc, mul_comm, mul_left_comm) at (mul-le-mul_right (l * l) h)) in
    let c : (k * p + x * l) * (l * q) ≡ k * p * (l * q) + x * l * (l * q) = add-mul (k * p) (x * l) (l * q) in
    let d : (k * q + y * l) * (l * p) ≡ k * q * (l * p) + y * l * (l * p) = add-mul (k * q) (y * l) (l * p) in
    omega arith

pub add_grows : (f : Format) {k x y : Float} → NonNeg k → NonNeg x → NonNeg y → T (le x y) → NonNeg (add f k y) → Kept (add f k x) (add f k y)
add_grows f {k} {x} {y} r p q h z =
    let b = add_is f r q in
    subst (λ (w : Float). Kept w (add f k y)) (sym (add_is f r p))
    (subst (λ (w : Float). Kept (round f false (num k * den x + num x * den k) (den k * den x)) w) (sym b)
    (rounded f (num k * den x + num x * den k) (den k * den x) (num k * den y + num y * den k) (den k * den y) (mul-pos (den_pos k) (den_pos x)) (mul-pos (den_pos k) (den_pos y))
    (more (num k) (den k) (num x) (den x) (num y) (den y) (le→cross p q h)) (subst (λ (w : Float). NonNeg w) b z)))
