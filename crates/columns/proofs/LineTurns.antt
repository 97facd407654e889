-- A turn of the line reader's loop reads one field more into the array, and at a bad field the numbers before it stand there.
use Rattle.std.proofs.Common.{◌≡◌, ℕ, zero, suc, ◌+◌, ◌-◌, ◌*◌, ◌<◌, ◌≤◌, List, [], ◌∷◌, ◌++◌, length, get_or, take, drop, set, sym, refl, ap, ◌∙◌, append_assoc, append-nil, add_comm, add-one, arith, length-set, take-append-drop, length-take-le, drop-drop, take-suc-set, drop-set-lt, Option, Some, None}
use Rattle.std.specs.Simd.{first_chunks}
use Rattle.columns.specs.Field.{field_width, field_read}
use Rattle.columns.specs.Line.{onto, before, fields, up_to, leading, over}

-- ---- the numbers before the first bad field, and what the fields say

whole_more : (f : Option ℕ) (ns : List ℕ) (r : Option (List ℕ)) (k : ℕ) → (length ns ≡ k → r ≡ Some ns) → length (up_to f ns) ≡ suc k → before f r ≡ Some (up_to f ns)
unfolding up_to before onto
whole_more (Some n) ns r k h e = ap (onto n) (h (omega arith))
whole_more None ns r k h e = absurd (omega arith)

-- where all are numbers, these are read
pub fields_whole : (k : ℕ) (s : List ℕ) → length (leading k s) ≡ k → fields k s ≡ Some (leading k s)
unfolding fields leading
fields_whole zero s e = refl
fields_whole (suc k) s e =
    whole_more (field_read (take field_width s)) (leading k (drop field_width s)) (fields k (drop field_width s)) k (fields_whole k (drop field_width s)) e

part_more : (f : Option ℕ) (ns : List ℕ) (r : Option (List ℕ)) (k : ℕ) → (length ns < k → r ≡ None) → length (up_to f ns) < suc k → before f r ≡ None
unfolding up_to before onto
part_more (Some n) ns r k h e = ap (onto n) (h (omega arith))
part_more None ns r k h e = refl

-- where one is bad, the line is broken
pub fields_part : (k : ℕ) (s : List ℕ) → length (leading k s) < k → fields k s ≡ None
unfolding fields leading
fields_part zero s e = absurd (omega arith)
fields_part (suc k) s e =
    part_more (field_read (take field_width s)) (leading k (drop field_width s)) (fields k (drop field_width s)) k (fields_part k (drop field_width s)) e

-- ---- the loop

-- a field of a line cut into fields
pub field_at : (count k : ℕ) (l : List ℕ) → k < count → get_or (first_chunks field_width count l) k [] ≡ take field_width (drop (field_width * k) l)
field_at zero k l h = absurd (omega arith)
field_at (suc count) zero l h = refl
field_at (suc count) (suc k) l h =
    let more : field_width * k + field_width ≡ field_width * suc k = omega arith in
    field_at count k (drop field_width l) (omega arith)
    ∙ ap (take field_width) (drop-drop (field_width * k) field_width l ∙ ap (λ (i : ℕ). drop i l) (add_comm field_width (field_width * k) ∙ more))

-- the first k fields are read into the array, which held b
pub record ReadTo (l : List ℕ) (count : ℕ) (b a : List ℕ) (k : ℕ) : Type 0 where
  pub same : leading count l ≡ take k a ++ leading (count - k) (drop (field_width * k) l)
  pub rest : drop k a ≡ drop k b
  pub long : length a ≡ length b

-- the array after the first k numbers, where these are all before the first bad field
over_first : (b a ns : List ℕ) (k : ℕ) → ns ≡ take k a → k ≤ length a → drop k a ≡ drop k b → (length ns ≡ k) × (a ≡ over ns b)
over_first b a ns k e h r =
    let n : length ns ≡ k = ap length e ∙ length-take-le k a h in (
      n,
      sym (take-append-drop k a) ∙ ap (λ (x : List ℕ). take k a ++ x) r ∙ ap (λ (x : List ℕ). x ++ drop k b) (sym e) ∙ ap (λ (m : ℕ). ns ++ drop m b) (sym n),
    )

module _ (l : List ℕ) (count : ℕ) (b a : List ℕ) (k : ℕ) (t : ReadTo l count b a k) (room : count ≤ length b) where
  module _ (h : k < count) where
    -- what is left is a field and the rest
    left_is : leading count l ≡ take k a ++ up_to (field_read (take field_width (drop (field_width * k) l))) (leading (count - (k + 1)) (drop (field_width * (k + 1)) l))
    unfolding leading
    left_is =
        let one : count - k ≡ suc (count - (k + 1)) = omega arith in
        let more : field_width * k + field_width ≡ field_width * (k + 1) = omega arith in
        let f : Option ℕ = field_read (take field_width (drop (field_width * k) l)) in
        t.same
        ∙ ap (λ (m : ℕ). take k a ++ leading m (drop (field_width * k) l)) one
        ∙ ap (λ (s : List ℕ). take k a ++ up_to f (leading (count - (k + 1)) s))
        (drop-drop field_width (field_width * k) l ∙ ap (λ (i : ℕ). drop i l) more)

    pub read_next : (v : ℕ) → field_read (take field_width (drop (field_width * k) l)) ≡ Some v → ReadTo l count b (set a k v) (k + 1)
    unfolding up_to
    read_next v e =
        let long : length a ≡ length b = t.long in
        let rest : List ℕ = leading (count - (k + 1)) (drop (field_width * (k + 1)) l) in
        let front : take k a ++ (v ∷ []) ≡ take (k + 1) (set a k v) =
        sym (take-suc-set a k v (omega arith)) ∙ ap (λ (m : ℕ). take m (set a k v)) (sym (add-one k)) in
        record {
          same =
              left_is
              ∙ ap (λ (f : Option ℕ). take k a ++ up_to f rest) e
              ∙ sym (append_assoc (take k a) (v ∷ []) rest)
              ∙ ap (λ (ns : List ℕ). ns ++ rest) front;
          rest =
              drop-set-lt (k + 1) a k v (omega arith)
              ∙ sym (drop-drop 1 k a)
              ∙ ap (drop 1) t.rest
              ∙ drop-drop 1 k b;
          long = length-set a k v ∙ long;
        }

    -- at a bad field the numbers before it are in the array
    pub read_bad : field_read (take field_width (drop (field_width * k) l)) ≡ None → (fields count l ≡ None) × (a ≡ over (leading count l) b)
    unfolding up_to
    read_bad e =
        let long : length a ≡ length b = t.long in
        let all : leading count l ≡ take k a =
        left_is
        ∙ ap (λ (f : Option ℕ). take k a ++ up_to f (leading (count - (k + 1)) (drop (field_width * (k + 1)) l))) e
        ∙ append-nil (take k a) in
        let o : (length (leading count l) ≡ k) × (a ≡ over (leading count l) b) = over_first b a (leading count l) k all (omega arith) t.rest in
        (fields_part count l (omega (arith, o.0)), o.1)

  -- after the last field all numbers are
  pub read_last : k ≡ count → (fields count l ≡ Some (leading count l)) × ((k ≡ length (leading count l)) × (a ≡ over (leading count l) b))
  unfolding leading
  read_last m =
      let long : length a ≡ length b = t.long in
      let z : count - k ≡ 0 = omega arith in
      let all : leading count l ≡ take k a = t.same ∙ ap (λ (j : ℕ). take k a ++ leading j (drop (field_width * k) l)) z ∙ append-nil (take k a) in
      let o : (length (leading count l) ≡ k) × (a ≡ over (leading count l) b) = over_first b a (leading count l) k all (omega arith) t.rest in
      (fields_whole count l (omega (arith, o.0)), (sym o.0, o.1))
