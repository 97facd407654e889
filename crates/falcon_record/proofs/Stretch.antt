-- Where a number stands in stretches one behind the other, how an array is written as such stretches, and how it is filled from them.
use Prim.Native.Nat.{ℕ, zero, suc, ◌+◌, ◌*◌, ◌<◌, ◌≤◌}
use native.Mathlib.Nat.{not-suc-le-zero, mul-zero, mul-suc, mul-le-mul_left}
use native.Mathlib.Decide.{dec_lt}
use native.Mathlib.Omega.{arith}
use mathlib.Core.Bool.{Bool, true, false, cond}
use mathlib.Core.Path.{◌≡◌, refl, sym, ap, ◌∙◌}
use mathlib.Core.List.{List, [], ◌∷◌, ◌++◌, append-nil}
use borrow.Author.Tests.{lt-ltb, le-ltb}
use lib.Dec.{ltb}
use lib.ListN.{length, get_or, replicate, length-append, length-replicate, get_or-replicate, get_or-append}
use lib.Seq.{get_or-append-add, ext_get_or}
use Rattle.std.specs.List.{flat_map}
use Rattle.std.proofs.lemmas.Grind.{flat_map-append}
use Rattle.std.proofs.lemmas.List.{get_or_default}
use Rattle.falcon_guidance.specs.Lent.{filled_of}
use Rattle.falcon_core.specs.SoundState.{first_of, Tidy}
use Rattle.falcon_core.proofs.Places.{length_filled, filled_at, filled_beyond}
use Rattle.falcon_record.specs.Columns.{placed, place_in}

-- number k of a part that stands behind `at` numbers
pub part_at : (pre part post : List ℕ) (at k : ℕ) → length pre ≡ at → k < length part → get_or (pre ++ (part ++ post)) (at + k) 0 ≡ get_or part k 0
part_at pre part post at k e h = rw (← e) (get_or-append-add pre (part ++ post) k 0 ∙ get_or-append part post 0 k h)

-- place k of stretch i of n stretches of w numbers
pub in_stretch : (w n i k : ℕ) → i < n → k < w → w * i + k < w * n
in_stretch w n i k p q = omega (arith, mul-le-mul_left w p, mul-suc w i)

-- n stretches of w numbers each
module _ (f : ℕ → List ℕ) (w : ℕ) (h : (i : ℕ) → length (f i) ≡ w) where
  pub length_placed : (n : ℕ) → length (placed f n) ≡ w * n
  unfolding placed
  length_placed zero = sym (mul-zero w)
  length_placed (suc n) = length-append (placed f n) (f n) ∙ simp (length_placed n, h n, mul-suc)

  -- number k of stretch i
  pub placed_at : (n i k : ℕ) → i < n → k < w → get_or (placed f n) (w * i + k) 0 ≡ get_or (f i) k 0
  unfolding placed
  placed_at zero i k p q = absurd (not-suc-le-zero p)
  placed_at (suc n) i k p q =
      elim (dec_lt i n) [
        | yes b ↦ get_or-append (placed f n) (f n) 0 (w * i + k) (rw (length_placed n) (in_stretch w n i k b q)) ∙ placed_at n i k b q
        | no b ↦
            let e : i ≡ n = omega arith in
            rw e (ap (λ (m : ℕ). get_or (placed f n ++ f n) (m + k) 0) (sym (length_placed n)) ∙ get_or-append-add (placed f n) (f n) k 0)
      ]

-- an array as n stretches of w numbers, behind `at` numbers: `cols` of whether place i is in use, as the first `count` are, and of what is in it
module _ {A : Type 0} (d z : A) (l : List A) (count n w : ℕ) (cols : Bool → A → List ℕ) (h : (b : Bool) (x : A) → length (cols b x) ≡ w) (pre post : List ℕ) (at : ℕ) (e : length pre ≡ at) where
  abbrev written : ℕ → List ℕ
  written i = cols (ltb i count) (place_in d z l count i)

  written_at : (m i k : ℕ) → m ≡ at + (w * i + k) → i < n → k < w → get_or (pre ++ (placed written n ++ post)) m 0 ≡ get_or (written i) k 0
  written_at m i k g p q =
      ap (λ (j : ℕ). get_or (pre ++ (placed written n ++ post)) j 0) g
      ∙ part_at pre (placed written n) post at (w * i + k) e (rw (length_placed written w (λ j. h _ _) n) (in_stretch w n i k p q))
      ∙ placed_at written w (λ j. h _ _) n i k p q

  -- number k of place i, in use or not
  pub place_at :
      (m i k : ℕ) → m ≡ at + (w * i + k) → i < n → k < w →
      (i < count → get_or (pre ++ (placed written n ++ post)) m 0 ≡ get_or (cols true (get_or l i d)) k 0)
      × (count ≤ i → get_or (pre ++ (placed written n ++ post)) m 0 ≡ get_or (cols false z) k 0)
  unfolding place_in
  place_at m i k g p q =
      ((λ u. written_at m i k g p q ∙ simp (lt-ltb i count u)), (λ u. written_at m i k g p q ∙ simp (le-ltb i count u)))

-- a tidy array is its own first places over z's
pub refilled :
    {A : Type 0} (Held : A → Type 0) (d z : A) (size : ℕ) (l : List A) (count : ℕ) (f : ℕ → A) →
    Tidy Held d z size l count →
    ((i : ℕ) → i < count → f i ≡ get_or l i d) →
    filled_of f count (replicate size z) ≡ l
refilled Held d z size l count f k h =
    let zs = replicate size z in
    let long : length zs ≡ size = length-replicate size z in
    ext_get_or d (filled_of f count zs) l (length_filled f count zs ∙ long ∙ sym k.long)
    (λ i p.
    let q : i < size = omega (arith, length_filled f count zs) in
    elim (dec_lt i count) [
      | yes b ↦ filled_at f d count zs i (omega (arith, k.few)) b ∙ h i b
      | no b ↦ filled_beyond f d count zs i (omega arith) ∙ get_or-replicate size i z d q ∙ sym (k.beyond i (omega arith) q)
    ])

-- the columns of rows, one behind the other
pub rows_placed : (f : ℕ → List ℕ) (n : ℕ) → flat_map (λ x. x) (first_of f n) ≡ placed f n
unfolding first_of placed
rows_placed f zero = refl
rows_placed f (suc n) = flat_map-append (λ x. x) (first_of f n) (f n ∷ []) ∙ rw (rows_placed f n, append-nil (f n)) refl

-- the same rows are the same columns
placed_same : (f g : ℕ → List ℕ) (n : ℕ) → ((i : ℕ) → i < n → f i ≡ g i) → placed f n ≡ placed g n
unfolding placed
placed_same f g zero h = refl
placed_same f g (suc n) h = rw (placed_same f g n (λ i p. h i (omega arith)), h n (omega arith)) refl

-- whatever is read past the end, the rows of all places are the same
pub places_placed :
    {A : Type 0} (cols : A → List ℕ) (d z : A) (l : List A) (count : ℕ) →
    flat_map (λ x. x) (first_of (λ i. cols (place_in z z l count i)) (length l)) ≡ placed (λ i. cols (place_in d z l count i)) (length l)
unfolding place_in
places_placed cols d z l count =
    rows_placed (λ i. cols (place_in z z l count i)) (length l)
    ∙ placed_same _ _ (length l) (λ i h. ap (λ x. cols (cond (ltb i count) x z)) (get_or_default l i z d h))
