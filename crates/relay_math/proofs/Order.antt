-- A clamped float lies between its ends, the maximum of two is one of them and below neither, and what becomes of a NaN.
use mathlib.Core.Path.{◌≡◌, refl}
use mathlib.Core.Logic.{◌⊎◌, inl, inr}
use mathlib.Core.Bool.{Bool, true, false, not, cond, ◌||◌}
use lib.Dec.{T}
use lib.Ieee.{Float, nan, inf, fin, lt, le, is_nan}
use lib.Ieee.Scale.{finite}
use Rattle.std.proofs.lemmas.Float.{le_refl, le_of_lt, le_of_not-lt, T_from_true, T_from_false}
use Rattle.relay_math.specs.Small.{max_of, clamp_of}

-- one of two tests passes where either does
pub or_l : (a b : Bool) → T a → T (a || b)
or_l true b t = tt
or_l false b t = absurd t

pub or_r : (a b : Bool) → T b → T (a || b)
or_r true b t = tt
or_r false b t = t

pub finite_no_nan : (x : Float) → T (finite x) → T (not (is_nan x))
unfolding is_nan
finite_no_nan nan h = absurd h
finite_no_nan (inf s) h = tt
finite_no_nan (fin s m e) h = tt

-- `clamp`: a number that is not NaN is cut to its ends
pub clamp_within : (x lo hi : Float) → T (not (is_nan x)) → T (not (is_nan lo)) → T (not (is_nan hi)) → T (le lo hi) → T (le lo (clamp_of x lo hi)) × T (le (clamp_of x lo hi) hi)
unfolding clamp_of
clamp_within x lo hi p l h o = go (lt x lo) (lt hi x) refl refl
  where
    go : (a b : Bool) → lt x lo ≡ a → lt hi x ≡ b → T (le lo (cond a lo (cond b hi x))) × T (le (cond a lo (cond b hi x)) hi)
    go true b e f = (le_refl lo l, o)
    go false true e f = (o, le_refl hi h)
    go false false e f = (le_of_not-lt x lo p l (T_from_false _ e), le_of_not-lt hi x h p (T_from_false _ f))

-- and NaN is kept
pub clamp_keeps_nan : (lo hi : Float) → clamp_of nan lo hi ≡ nan
unfolding clamp_of lt
clamp_keeps_nan lo nan = refl
clamp_keeps_nan lo (inf s) = refl
clamp_keeps_nan lo (fin s m e) = refl

-- `max`: a NaN is passed over
pub max_passes_nan : (x y : Float) → (max_of nan y ≡ y) × (max_of x nan ≡ x)
unfolding max_of is_nan lt
max_passes_nan x nan = (refl, refl)
max_passes_nan x (inf s) = (refl, refl)
max_passes_nan x (fin s m e) = (refl, refl)

-- it is one of the two
pub max_one_of : (x y : Float) → (max_of x y ≡ x) ⊎ (max_of x y ≡ y)
unfolding max_of
max_one_of x y = go (is_nan y) (lt y x)
  where
    go : (a b : Bool) → (cond a x (cond b x y) ≡ x) ⊎ (cond a x (cond b x y) ≡ y)
    go true b = inl refl
    go false true = inl refl
    go false false = inr refl

-- and what is no NaN is not above it
pub max_not_below : (x y : Float) → (T (not (is_nan x)) → T (le x (max_of x y))) × (T (not (is_nan y)) → T (le y (max_of x y)))
unfolding max_of
max_not_below x y = go (is_nan y) (lt y x) refl refl
  where
    go : (a b : Bool) → is_nan y ≡ a → lt y x ≡ b → (T (not (is_nan x)) → T (le x (cond a x (cond b x y)))) × (T (not (is_nan y)) → T (le y (cond a x (cond b x y))))
    go true b e f = (le_refl x, λ q. absurd (rw e at q))
    go false true e f = (le_refl x, λ q. le_of_lt y x (T_from_true _ f))
    go false false e f = (λ p. le_of_not-lt y x (T_from_false _ e) p (T_from_false _ f), le_refl y)
