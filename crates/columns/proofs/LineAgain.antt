-- A line of numbers is read as these numbers, a line that is read is theirs, and a line over its limit is broken.
use Rattle.std.proofs.Common.{◌≡◌, ℕ, zero, suc, ◌+◌, ◌*◌, ◌/◌, ◌%◌, ◌<◌, ◌≤◌, true, false, List, [], ◌∷◌, ◌++◌, length, get_or, take, drop, sym, refl, ap, ◌∙◌, arith, length-drop, take-append-drop, length-take, length-take-le, take_at, drop_at, le-ltb, lt-ltb, eq-eqb, ne_eqb, le-leb, Option, Some, None}
use native.Mathlib.Decide.{ℕ_discrete, dec_le}
use mathlib.Core.Bool.{and-false}
use borrow.Author.Tests.{lt-leb}
use Rattle.columns.specs.Field.{field_width, field_read, kind_of, field_of}
use Rattle.columns.specs.Line.{onto, before, fields, length_ok, read_within, line_of, InRange}
use Rattle.columns.proofs.FieldAgain.{length_field, read_written, read_only, read_range}
use Rattle.columns.proofs.Writing.{length_line}

-- ---- lengths

module _ (limit n : ℕ) where
  pub length_right : 0 < n → n % field_width ≡ 0 → n ≤ field_width * limit → length_ok limit n ≡ true
  unfolding length_ok
  length_right some whole most = simp (lt-ltb 0 n some, eq-eqb (n % field_width) 0 whole, le-leb n (field_width * limit) most)

  -- "length 0"
  pub length_none : n ≡ 0 → length_ok limit n ≡ false
  unfolding length_ok
  length_none none = simp (le-ltb 0 n (omega arith))

  -- "no multiple of 11"
  pub length_uneven : (n % field_width ≡ 0 → ⊥) → length_ok limit n ≡ false
  unfolding length_ok
  length_uneven uneven = simp (ne_eqb (n % field_width) 0 uneven, and-false)

  -- "over 1,430"
  pub length_long : field_width * limit < n → length_ok limit n ≡ false
  unfolding length_ok
  length_long long = simp (lt-leb n (field_width * limit) long, and-false)

module _ (limit : ℕ) (s : List ℕ) where
  pub within_ok : 0 < length s → length s % field_width ≡ 0 → length s ≤ field_width * limit → read_within limit s ≡ fields (length s / field_width) s
  unfolding read_within
  within_ok some whole most = simp (length_right limit (length s) some whole most)

  pub within_bad : length_ok limit (length s) ≡ false → read_within limit s ≡ None
  unfolding read_within
  within_bad bad = simp bad

-- a line over its limit is broken whatever stands behind the limit
pub within_cut : (limit most : ℕ) (s : List ℕ) → limit ≤ most → field_width * most < length s → read_within limit s ≡ read_within limit (take (field_width * most + 1) s)
within_cut limit most s low long =
    let cut : length (take (field_width * most + 1) s) ≡ field_width * most + 1 = length-take-le (field_width * most + 1) s (omega arith) in
    within_bad limit s (length_long limit (length s) (omega arith))
    ∙ sym (within_bad limit (take (field_width * most + 1) s) (length_long limit (length (take (field_width * most + 1) s)) (omega arith)))

-- fewer bytes than a field are of no kind
pub kind_short : (s : List ℕ) → length s < field_width → None ≡ kind_of s
unfolding kind_of field_read
kind_short s h = simp (ne_eqb (length (take field_width s)) field_width (λ e. omega (arith, length-take field_width s, e)))

-- ---- numbers written are read

fields_again : (ns : List ℕ) → InRange ns → fields (length ns) (line_of ns) ≡ Some ns
unfolding fields line_of before onto
fields_again [] r = refl
fields_again (n ∷ ns) r =
    let field : field_read (take field_width (field_of n ++ line_of ns)) ≡ Some n =
    ap field_read (take_at (field_of n) (line_of ns) field_width (length_field n)) ∙ read_written n r.0 in
    let rest : fields (length ns) (drop field_width (field_of n ++ line_of ns)) ≡ Some ns =
    ap (fields (length ns)) (drop_at (field_of n) (line_of ns) field_width (length_field n)) ∙ fields_again ns r.1 in
    ap (λ (f : Option ℕ). before f (fields (length ns) (drop field_width (field_of n ++ line_of ns)))) field
    ∙ ap (onto n) rest

-- numbers that are written as a line are read again
pub line_again : (limit : ℕ) (ns : List ℕ) → 0 < length ns → length ns ≤ limit → InRange ns → read_within limit (line_of ns) ≡ Some ns
line_again limit ns some most r =
    let long : length (line_of ns) ≡ field_width * length ns = length_line ns in
    let count : length (line_of ns) / field_width ≡ length ns = omega arith in
    within_ok limit (line_of ns) (omega arith) (omega arith) (omega arith)
    ∙ ap (λ (k : ℕ). fields k (line_of ns)) count
    ∙ fields_again ns r

-- ---- numbers read are those written

-- a first field and the rest, both read
pub record Before (f : Option ℕ) (r : Option (List ℕ)) (ns : List ℕ) : Type 0 where
  pub first : ℕ
  pub rest : List ℕ
  pub is_field : f ≡ Some first
  pub is_rest : r ≡ Some rest
  pub is : first ∷ rest ≡ ns

pub before_is : (f : Option ℕ) (r : Option (List ℕ)) (ns : List ℕ) → before f r ≡ Some ns → Before f r ns
unfolding before onto
before_is (Some n) (Some ms) ns h = record { first = n; rest = ms; is_field = refl; is_rest = refl; is = cc }
before_is (Some n) None ns h = cc
before_is None r ns h = cc

-- a line of these numbers, so many at most
pub record IsLine (limit : ℕ) (s ns : List ℕ) : Type 0 where
  pub is : s ≡ line_of ns
  pub some : 0 < length ns
  pub most : length ns ≤ limit
  pub range : InRange ns

record FieldsAre (k : ℕ) (s ns : List ℕ) : Type 0 where
  is : s ≡ line_of ns
  count : length ns ≡ k
  range : InRange ns

fields_only : (k : ℕ) (s ns : List ℕ) → length s ≡ field_width * k → fields k s ≡ Some ns → FieldsAre k s ns
unfolding fields line_of
fields_only zero [] [] long h = record { is = refl; count = refl; range = tt }
fields_only zero [] (n ∷ ns) long h = cc
fields_only zero (b ∷ s) ns long h = absurd (omega arith)
fields_only (suc k) s ns long h =
    let b : Before (field_read (take field_width s)) (fields k (drop field_width s)) ns =
    before_is (field_read (take field_width s)) (fields k (drop field_width s)) ns h in
    let r : FieldsAre k (drop field_width s) b.rest =
    fields_only k (drop field_width s) b.rest (length-drop field_width s ∙ omega arith) b.is_rest in
    let front : take field_width s ≡ field_of b.first = read_only (take field_width s) b.first b.is_field in
    let both : FieldsAre (suc k) s (b.first ∷ b.rest) =
    record {
      is =
          sym (take-append-drop field_width s)
          ∙ ap (λ (l : List ℕ). l ++ drop field_width s) front
          ∙ ap (λ (l : List ℕ). field_of b.first ++ l) r.is;
      count = ap suc r.count;
      range = (read_range (take field_width s) b.first b.is_field, r.range);
    } in
    rw b.is at both

-- a line that is read is the line of the numbers read
pub line_only : (limit : ℕ) (s ns : List ℕ) → read_within limit s ≡ Some ns → IsLine limit s ns
line_only limit s ns h =
    elim (ℕ_discrete (length s) 0) [
      | yes none ↦ cc (sym (within_bad limit s (length_none limit (length s) none)) ∙ h)
      | no q ↦
          elim (ℕ_discrete (length s % field_width) 0) [
            | no uneven ↦ cc (sym (within_bad limit s (length_uneven limit (length s) uneven)) ∙ h)
            | yes whole ↦
                elim (dec_le (length s) (field_width * limit)) [
                  | no long ↦ cc (sym (within_bad limit s (length_long limit (length s) (omega arith))) ∙ h)
                  | yes most ↦
                      let f : FieldsAre (length s / field_width) s ns =
                      fields_only (length s / field_width) s ns (omega arith) (sym (within_ok limit s (omega arith) whole most) ∙ h) in
                      let count : length ns ≡ length s / field_width = f.count in
                      record { is = f.is; some = omega arith; most = omega arith; range = f.range }
                ]
          ]
    ]

-- the kind of a line that is read is its first number
kind_first : (limit : ℕ) (s ns : List ℕ) → IsLine limit s ns → kind_of s ≡ Some (get_or ns 0 0)
unfolding kind_of line_of
kind_first limit s [] h = absurd (omega (arith, h.some))
kind_first limit s (n ∷ ns) h =
    ap (λ (l : List ℕ). field_read (take field_width l)) h.is
    ∙ ap field_read (take_at (field_of n) (line_of ns) field_width (length_field n))
    ∙ read_written n h.range.0

pub first_number : (limit : ℕ) (s ns : List ℕ) → read_within limit s ≡ Some ns → kind_of s ≡ Some (get_or ns 0 0)
first_number limit s ns h = kind_first limit s ns (line_only limit s ns h)
