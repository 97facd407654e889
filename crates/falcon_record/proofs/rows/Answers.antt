-- After i turns the first i rows are there, the others are as of places that are not in use, and the places in use after the first i are left.
use Rattle.std.proofs.Common.{rules, ◌≡◌, refl, sym, ap, ◌∙◌, ℕ, suc, ◌+◌, ◌-◌, ◌<◌, ◌≤◌, min, List, ◌∷◌, ◌++◌, length, take, drop, get_or, set, replicate, append_assoc, add-one, arith}
use Rattle.std.proofs.lemmas.Bool.{lt-ltb, le-ltb}
use Rattle.std.proofs.lemmas.List.{set_at, length-take, length-drop, drop_more, drop_all, get_or_default}
use lib.Seq.{get_or-take, get_or_at}
use Rattle.falcon_core.specs.SoundState.{first_of}
use Rattle.falcon_core.proofs.Places.{length_first}
use Rattle.falcon_record.specs.Columns.{place_in}
use Rattle.falcon_record.proofs.rows.Goals as goal
use Rattle.falcon_record.proofs.rows.Goals.{in-Some, in_default}

-- the places in use are the first m, and place i is tried
module _ {A : Type 0} (places : List A) (n count i : ℕ) (long : length places ≡ n) (d : A) where
  in_use : (x : A) (s : List A) → drop i (take (min n count) places) ≡ x ∷ s → (x ≡ place_in d d places count i) × (s ≡ drop (i + 1) (take (min n count) places))
  unfolding place_in
  in_use x s e =
      let u = take (min n count) places in
      let less : i < length u = omega (arith, ap length e, length-drop i u) in
      let both : x ∷ s ≡ get_or u i x ∷ drop (i + 1) u = sym e ∙ drop_more u i x less in
      let below : i < min n count = omega (arith, less, length-take (min n count) places) in
      let same : get_or places i x ≡ get_or places i d = get_or_default places i x d (omega arith) in
      (rw (lt-ltb i count (omega arith)) (ap (λ (l : List A). get_or l 0 x) both ∙ get_or-take (min n count) places i x below ∙ same), ap (λ (l : List A). drop 1 l) both)

  beyond : length (drop i (take (min n count) places)) ≡ 0 → i < n → (d ≡ place_in d d places count i) × (drop i (take (min n count) places) ≡ drop (i + 1) (take (min n count) places))
  unfolding place_in
  beyond h k =
      let u = take (min n count) places in
      let more : length u ≤ i = omega (arith, h, length-drop i u) in
      (rw (le-ltb i count (omega (arith, length-take (min n count) places))) refl, rw (drop_all i u more, drop_all (i + 1) u (omega arith)) refl)

module _ {X : Type 0} (f : ℕ → X) (e : X) where
  first : (n : ℕ) → replicate n e ≡ first_of f 0 ++ replicate (n - 0) e
  unfolding first_of
  first n = let a : n - 0 ≡ n = omega arith in rw a

  next : (n i r : ℕ) (xs : List X) (x : X) → n - i ≡ suc r → xs ≡ first_of f i ++ replicate (n - i) e → x ≡ f i → set xs i x ≡ first_of f (i + 1) ++ replicate r e
  unfolding first_of
  next n i r xs x m k q =
      rw (k, m, q, add-one i, append_assoc) (set_at (first_of f i) e (replicate r e) (f i) i (length_first f i))

  same : (n i r : ℕ) (xs : List X) (x : X) → n - i ≡ suc r → xs ≡ first_of f i ++ replicate (n - i) e → e ≡ f i → set xs i (get_or xs i x) ≡ first_of f (i + 1) ++ replicate r e
  same n i r xs x m k q =
      let at : get_or xs i x ≡ e = rw (k, m) (get_or_at (first_of f i) e (replicate r e) x i (length_first f i)) in
      next n i r xs (get_or xs i x) m k (at ∙ q)

pub loop-row-init : goal.loop-row-init
loop-row-init g c = (search rules, rw (c.columns-rows.ensures, c.unused.ensures) (first _ _ _))

pub loop-row-preserved : goal.loop-row-preserved
loop-row-preserved g c =
    let columns = g.T.Recorded.columns in
    let n = g.row.N in
    let e = g.T.Place.empty in
    let places = c.args.places.now in
    let count = c.args.count in
    let i = c.loop-row.row-index in
    let before = c.loop-row.invariant in
    let long : length places ≡ n = search rules in
    let left : n - i ≡ suc (n - (i + 1)) = omega arith in
    elim c.match-next.branch [
      | in-Some w ↦
          let here = in_use places n count i long e _ _ (rw before.0 at w.in-Some.ensures.steps) in
          (here.1, w.row-items-is ∙ next _ _ n i _ _ _ left before.1 (w.columns.ensures ∙ ap columns here.0))
      | in_default w ↦
          let steps = w.in_default.ensures.steps in
          let here = beyond places n count i long e (rw before.0 at steps.0) c.loop-row-test.true in
          (ap (λ l. l.rest.now) steps.1 ∙ before.0 ∙ here.1, w.row-items-is ∙ same _ _ n i _ _ _ left before.1 (ap columns here.0))
    ]
