-- `sanitize` ends between its ends, and what lies between finite floats is finite.
use Rattle.std.proofs.Common.{ℕ, zero, suc, Bool, true, false, cond, T, List, [], ◌∷◌, get_or}
use Rattle.std.proofs.lemmas.Bool.{cond_both}
use lib.Ieee.{Float, nan, inf, fin, le}
use lib.Ieee.Fits.{and_l, and_r}
use lib.Ieee.Scale.{finite}
use Rattle.relay_math.proofs.Order.{finite_no_nan, clamp_within}
use Rattle.relay_batt.specs.Curve.{sanitize_of}
use Rattle.relay_batt.specs.Bounds.{Within, all}

-- what lies between two finite floats is finite
pub within_finite : (lo hi x : Float) → T (finite lo) → T (finite hi) → Within lo hi x → T (finite x)
unfolding le
within_finite nan hi x p q w = absurd p
within_finite (inf s) hi x p q w = absurd p
within_finite (fin s m e) nan x p q w = absurd q
within_finite (fin s m e) (inf t) x p q w = absurd q
within_finite (fin s m e) (fin t n d) nan p q w = w.low
within_finite (fin s m e) (fin t n d) (inf true) p q w = w.low
within_finite (fin s m e) (fin t n d) (inf false) p q w = w.high
within_finite (fin s m e) (fin t n d) (fin u k g) p q w = tt

-- `sanitize` ends between its ends, whatever is given
pub sanitize_within : (x lo hi d : Float) → T (finite d) → T (finite lo) → T (finite hi) → T (le lo hi) → Within lo hi (sanitize_of x lo hi d)
unfolding sanitize_of
sanitize_within x lo hi d p q r h =
    let y = cond (finite x) x d in
    let f : T (finite y) = cond_both (finite x) x d (λ z. T (finite z)) (λ e. rw e tt) (λ e. p) in
    let w = clamp_within y lo hi (finite_no_nan y f) (finite_no_nan lo q) (finite_no_nan hi r) h in
    record { low = w.0; high = w.1 }

-- ---- lists of tests
pub each : (l : List Bool) → T (all l) → (i : ℕ) → T (get_or l i true)
each [] t i = tt
each (b ∷ l) t zero = and_l b (all l) t
each (b ∷ l) t (suc i) = each l (and_r b (all l) t) i
