-- After i turns as many of the first i places as there are items hold them, and the items after those are left.
use Rattle.std.proofs.Common.{rules, ◌≡◌, refl, sym, ap, ◌∙◌, ℕ, ◌+◌, ◌*◌, ◌/◌, ◌<◌, ◌≤◌, min, List, ◌++◌, length, take, drop, set, Float, replicate, add-one, arith}
use Rattle.std.proofs.lemmas.List.{set-get_or, drop-drop, length-drop, length-append}
use Rattle.std.proofs.lemmas.List.Prefix.{front_rest}
use Rattle.std.proofs.lemmas.Nat.{le-div, mul-le}
use Rattle.std.proofs.Math.Nat.{div-mul-le_self}
use Rattle.std.proofs.Math.Seq.{take-append_seam}
use native.Mathlib.Decide.{dec_lt}
use Rattle.falcon_guidance.specs.Lent.{filled_of}
use Rattle.falcon_guidance.proofs.lent.stored.Goals as goal
use Rattle.falcon_guidance.proofs.lent.stored.Goals.{in-Some, in_default}

module _ (l : List Float) (w : ℕ) where
  more : (m : ℕ) → (m + 1) * w ≡ m * w + w
  more m = search rules

  -- with a whole item left the place has one
  has_one : 0 < w → (i : ℕ) (x s : List Float) → drop (min (length l / w) i * w) l ≡ x ++ s → length x ≡ w → i < length l / w
  has_one some i x s e h =
      let k = min (length l / w) i in
      let long : length (drop (k * w) l) ≡ length x + length s = ap length e ∙ length-append x s in
      let fits : k * w + w ≤ length l = omega (arith, long, length-drop (k * w) l) in
      let next : k + 1 ≤ length l / w = le-div (k + 1) (length l) w some (rw (more k) fits) in
      omega arith

  -- with none left it has none
  has_none : (i : ℕ) → length (drop (min (length l / w) i * w) l) < w → length l / w ≤ i
  has_none i h = elim (dec_lt i (length l / w)) [
    | yes p ↦
        let same : min (length l / w) i ≡ i = omega arith in
        let few : length (drop (i * w) l) < w = rw same at h in
        let less : (i + 1) * w ≤ length l / w * w = mul-le (i + 1) w (length l / w) w (omega arith) (omega arith) in
        omega (arith, more i, length-drop (i * w) l, div-mul-le_self (length l) w)
    | no q ↦ omega arith
  ]

  -- the item is the next floats, and the others are behind it
  cut : (i : ℕ) (x s : List Float) → drop (i * w) l ≡ x ++ s → length x ≡ w → (x ≡ take w (drop (i * w) l)) × (s ≡ drop ((i + 1) * w) l)
  cut i x s e h =
      let a : take w (drop (i * w) l) ≡ x = rw (e, ← h) (take-append_seam x s) in
      let b : drop w (drop (i * w) l) ≡ s = ap (λ (m : ℕ). drop m (drop (i * w) l)) (sym h) ∙ front_rest (drop (i * w) l) x s e in
      (sym a, sym b ∙ drop-drop w (i * w) l ∙ ap (λ (m : ℕ). drop m l) (sym (more i)))

one_more : {A : Type 0} (f : ℕ → A) (k i : ℕ) (r xs : List A) (x : A) → k ≡ i → xs ≡ filled_of f k r → x ≡ f i → set xs i x ≡ filled_of f (i + 1) r
unfolding filled_of
one_more f k i r xs x e h q = rw (h, e, q, add-one i) refl

pub loop-place-preserved : goal.loop-place-preserved
loop-place-preserved g c =
    let l = c.args.lent.now in
    let w = g.T.Lent.NUMBERS in
    let f = g.T.Lent.at l in
    let r = replicate g.row.N g.T.Place.empty in
    let n = length l / w in
    let i = c.loop-place.place-index in
    let before = c.loop-place.invariant in
    elim c.match-next.branch [
      | in-Some v ↦
          let steps = v.in-Some.ensures.steps in
          let front = rw before.1 at steps.1.0 in
          let long = steps.1.1 ∙ before.0 in
          let has : i < n = has_one l w g.met.T.Lent.some i _ _ front long in
          let now : min n i ≡ i = omega arith in
          let next : min n (i + 1) ≡ i + 1 = omega arith in
          let parts = cut l w i _ _ (rw (← now) front) long in
          let item = v.from_numbers.ensures ∙ ap (λ (xs : List Float). g.T.Lent.at xs 0) parts.0 ∙ g.met.T.Lent.chunk l i in
          (steps.0 ∙ before.0, rw next parts.1, rw (next, v.place-items-is) (one_more f _ i r _ _ now before.2 item))
      | in_default v ↦
          let steps = v.in_default.ensures.steps in
          let few = rw (before.1, before.0) at steps.1.0 in
          let none : n ≤ i = has_none l w i few in
          let same : min n (i + 1) ≡ min n i = omega arith in
          (steps.0 ∙ before.0, rw same (ap (λ z. z.rest.now) steps.1.1 ∙ before.1), rw (same, v.place-items-is, set-get_or) before.2)
    ]
