-- The lines of an input joined are the input again, and no line holds a newline.
use Prim.Native.Nat.{ℕ, zero, suc, ◌+◌, ◌-◌, ◌≤◌, ◌<◌}
use native.Mathlib.Omega.{arith}
use native.Mathlib.Decide.{ℕ_discrete}
use mathlib.Core.Path.{◌≡◌, refl, sym, ap, ◌∙◌}
use mathlib.Core.Logic.{⊎_elim}
use mathlib.Core.List.Memᴰ
use mathlib.Core.List.{List, [], ◌∷◌, ◌++◌, append-nil, append_assoc, append_cancel_left, Memᴰ}
use lib.ListN.{length, take, drop, length-append, take-append-drop, length-drop}
use lib.Seq.{drop-append-add, drop-append_seam, drop-drop, take_all}
use Rattle.std.specs.List.{All}
use Rattle.std.proofs.lemmas.List.Elements.{All-nil, All-cons, All-head, All-tail, All-append, All-drop}
use borrow.Author.Tests.{eq-eqb, ne_eqb}
use Rattle.sheet.specs.Lines.{newline, byte_in_front, whole_lines, joined_lines, line_begun, last_line, lines_of, line_end}

-- ---- no newline

whole_other : (b : ℕ) (s : List ℕ) → (b ≡ newline → ⊥) → whole_lines (b ∷ s) ≡ byte_in_front b (whole_lines s)
unfolding whole_lines
whole_other b s q = simp (ne_eqb b newline q)

whole_newline : (b : ℕ) (s : List ℕ) → b ≡ newline → whole_lines (b ∷ s) ≡ [] ∷ whole_lines s
unfolding whole_lines
whole_newline b s e = simp (eq-eqb b newline e)

front_none : (b : ℕ) (ls : List (List ℕ)) → byte_in_front b ls ≡ [] → ls ≡ []
unfolding byte_in_front
front_none b [] h = refl
front_none b (l ∷ ls) h = cc

-- bytes without a newline, from the first on
record Bare (b : ℕ) (s : List ℕ) : Type 0 where
  first : b ≡ newline → ⊥
  others : whole_lines s ≡ []

bare_is : (b : ℕ) (s : List ℕ) → whole_lines (b ∷ s) ≡ [] → Bare b s
bare_is b s h =
    elim (ℕ_discrete b newline) [
      | yes e ↦ let never : [] ∷ whole_lines s ≡ [] = sym (whole_newline b s e) ∙ h in cc
      | no q ↦ record { first = q; others = front_none b (whole_lines s) (sym (whole_other b s q) ∙ h) }
    ]

bare_cons : (b : ℕ) (s : List ℕ) → (b ≡ newline → ⊥) → whole_lines s ≡ [] → whole_lines (b ∷ s) ≡ []
unfolding byte_in_front
bare_cons b s q h = whole_other b s q ∙ ap (byte_in_front b) h

pub bare_append : (s t : List ℕ) → whole_lines s ≡ [] → whole_lines t ≡ [] → whole_lines (s ++ t) ≡ []
bare_append [] t h k = k
bare_append (b ∷ s) t h k =
    let r : Bare b s = bare_is b s h in
    bare_cons b (s ++ t) r.first (bare_append s t r.others k)

pub bare_take : (n : ℕ) (s : List ℕ) → whole_lines s ≡ [] → whole_lines (take n s) ≡ []
unfolding whole_lines
bare_take zero s h = refl
bare_take (suc n) [] h = refl
bare_take (suc n) (b ∷ s) h =
    let r : Bare b s = bare_is b s h in
    bare_cons b (take n s) r.first (bare_take n s r.others)

pub bare_none : (s : List ℕ) → whole_lines s ≡ [] → Memᴰ newline s → ⊥
bare_none [] h m = Memᴰ.not-nil m
bare_none (b ∷ s) h m =
    let r : Bare b s = bare_is b s h in
    ⊎_elim (λ e. r.first (sym e)) (λ k. bare_none s r.others k) (Memᴰ.cases_cons m)

-- bytes without a newline and then one are a line
pub whole_line : (l t : List ℕ) → whole_lines l ≡ [] → whole_lines (l ++ (newline ∷ t)) ≡ l ∷ whole_lines t
unfolding byte_in_front
whole_line [] t h = whole_newline newline t refl
whole_line (b ∷ l) t h =
    let r : Bare b l = bare_is b l h in
    whole_other b (l ++ (newline ∷ t)) r.first ∙ ap (byte_in_front b) (whole_line l t r.others)

-- ---- lines without a newline in them

abbrev pub IsBare : List ℕ → Type 0
IsBare l = whole_lines l ≡ []

abbrev pub AllBare : List (List ℕ) → Type 0
AllBare ls = All IsBare ls

front_bare : (b : ℕ) (ls : List (List ℕ)) → (b ≡ newline → ⊥) → AllBare ls → AllBare (byte_in_front b ls)
unfolding byte_in_front
front_bare b [] q h = All-nil IsBare
front_bare b (l ∷ ls) q h = All-cons IsBare (b ∷ l) ls (bare_cons b l q (All-head IsBare l ls h)) (All-tail IsBare l ls h)

pub whole_bare : (s : List ℕ) → AllBare (whole_lines s)
unfolding whole_lines
whole_bare [] = All-nil IsBare
whole_bare (b ∷ s) =
    elim (ℕ_discrete b newline) [
      | yes e ↦ rw (whole_newline b s e) (All-cons IsBare [] (whole_lines s) refl (whole_bare s))
      | no q ↦ rw (whole_other b s q) (front_bare b (whole_lines s) q (whole_bare s))
    ]

pub whole_joined : (ls : List (List ℕ)) (t : List ℕ) → AllBare ls → whole_lines (joined_lines ls ++ t) ≡ ls ++ whole_lines t
unfolding joined_lines
whole_joined [] t h = refl
whole_joined (l ∷ ls) t h =
    ap whole_lines (append_assoc l (newline ∷ joined_lines ls) t)
    ∙ whole_line l (joined_lines ls ++ t) (All-head IsBare l ls h)
    ∙ ap (λ (ms : List (List ℕ)). l ∷ ms) (whole_joined ls t (All-tail IsBare l ls h))

pub joined_append : (ls ms : List (List ℕ)) → joined_lines (ls ++ ms) ≡ joined_lines ls ++ joined_lines ms
unfolding joined_lines
joined_append [] ms = refl
joined_append (l ∷ ls) ms =
    ap (λ (s : List ℕ). l ++ (newline ∷ s)) (joined_append ls ms) ∙ sym (append_assoc l (newline ∷ joined_lines ls) (joined_lines ms))

-- ---- an input is its whole lines, joined, and the line begun

-- a byte that is no newline in front
front_other : (b : ℕ) (s : List ℕ) (ls : List (List ℕ)) → joined_lines ls ++ drop (length (joined_lines ls)) s ≡ s
    → joined_lines (byte_in_front b ls) ++ drop (length (joined_lines (byte_in_front b ls))) (b ∷ s) ≡ b ∷ s
unfolding joined_lines byte_in_front
front_other b s [] h = refl
front_other b s (l ∷ ls) h = ap (λ (t : List ℕ). b ∷ t) h

pub joined_begun : (s : List ℕ) → joined_lines (whole_lines s) ++ line_begun s ≡ s
unfolding line_begun whole_lines joined_lines
joined_begun [] = refl
joined_begun (b ∷ s) =
    elim (ℕ_discrete b newline) [
      | yes e ↦ rw (whole_newline b s e) (ap (λ (t : List ℕ). newline ∷ t) (joined_begun s) ∙ ap (λ (c : ℕ). c ∷ s) (sym e))
      | no q ↦ rw (whole_other b s q) (front_other b s (whole_lines s) (joined_begun s))
    ]

-- the line begun has no newline
pub begun_bare : (s : List ℕ) → whole_lines (line_begun s) ≡ []
begun_bare s =
    append_cancel_left (whole_lines s) (whole_lines (line_begun s)) []
    (sym (whole_joined (whole_lines s) (line_begun s) (whole_bare s)) ∙ ap whole_lines (joined_begun s) ∙ sym (append-nil (whole_lines s)))

pub begun_joined : (ls : List (List ℕ)) (t : List ℕ) → AllBare ls → line_begun (joined_lines ls ++ t) ≡ line_begun t
unfolding line_begun
begun_joined ls t h =
    let long : length (joined_lines (whole_lines (joined_lines ls ++ t))) ≡ length (joined_lines ls) + length (joined_lines (whole_lines t)) =
    ap (λ (ms : List (List ℕ)). length (joined_lines ms)) (whole_joined ls t h)
    ∙ ap length (joined_append ls (whole_lines t))
    ∙ length-append (joined_lines ls) (joined_lines (whole_lines t)) in
    ap (λ (n : ℕ). drop n (joined_lines ls ++ t)) long ∙ drop-append-add (joined_lines ls) t (length (joined_lines (whole_lines t)))

-- bytes without a newline are all of a line begun
pub begun_all : (s : List ℕ) → whole_lines s ≡ [] → line_begun s ≡ s
unfolding line_begun joined_lines
begun_all s h = ap (λ (ls : List (List ℕ)). drop (length (joined_lines ls)) s) h

-- the lines of joined lines and what follows them
pub lines_joined : (ls : List (List ℕ)) (t : List ℕ) → AllBare ls → lines_of (joined_lines ls ++ t) ≡ ls ++ lines_of t
unfolding lines_of
lines_joined ls t h =
    ap (λ (ms : List (List ℕ)). ms ++ last_line (line_begun (joined_lines ls ++ t))) (whole_joined ls t h)
    ∙ ap (λ (r : List ℕ). (ls ++ whole_lines t) ++ last_line r) (begun_joined ls t h)
    ∙ append_assoc ls (whole_lines t) (last_line (line_begun t))

-- an input in two parts: the whole lines of the first, and the lines of its line begun with the second
pub lines_split : (s t : List ℕ) → lines_of (s ++ t) ≡ whole_lines s ++ lines_of (line_begun s ++ t)
lines_split s t =
    ap (λ (r : List ℕ). lines_of (r ++ t)) (sym (joined_begun s))
    ∙ ap lines_of (append_assoc (joined_lines (whole_lines s)) (line_begun s) t)
    ∙ lines_joined (whole_lines s) (line_begun s ++ t) (whole_bare s)

pub whole_split : (s t : List ℕ) → whole_lines (s ++ t) ≡ whole_lines s ++ whole_lines (line_begun s ++ t)
whole_split s t =
    ap (λ (r : List ℕ). whole_lines (r ++ t)) (sym (joined_begun s))
    ∙ ap whole_lines (append_assoc (joined_lines (whole_lines s)) (line_begun s) t)
    ∙ whole_joined (whole_lines s) (line_begun s ++ t) (whole_bare s)

pub begun_split : (s t : List ℕ) → line_begun (s ++ t) ≡ line_begun (line_begun s ++ t)
begun_split s t =
    ap (λ (r : List ℕ). line_begun (r ++ t)) (sym (joined_begun s))
    ∙ ap line_begun (append_assoc (joined_lines (whole_lines s)) (line_begun s) t)
    ∙ begun_joined (whole_lines s) (line_begun s ++ t) (whole_bare s)

-- ---- what a reader expects of the lines

joined_last : (r : List ℕ) → (r ≡ [] → ⊥) → joined_lines (last_line r) ≡ r ++ (newline ∷ [])
unfolding joined_lines last_line
joined_last [] q = absurd (q refl)
joined_last (b ∷ r) q = refl

-- an input that ends with a newline, or has no bytes, is its lines with a newline after each
pub lines_again : (s : List ℕ) → line_begun s ≡ [] → joined_lines (lines_of s) ≡ s
unfolding lines_of last_line joined_lines
lines_again s e =
    ap (λ (r : List ℕ). joined_lines (whole_lines s ++ last_line r)) e
    ∙ ap joined_lines (append-nil (whole_lines s))
    ∙ sym (append-nil (joined_lines (whole_lines s)))
    ∙ ap (λ (r : List ℕ). joined_lines (whole_lines s) ++ r) (sym e)
    ∙ joined_begun s

-- any other input is so but for the last newline
pub lines_again_last : (s : List ℕ) → (line_begun s ≡ [] → ⊥) → joined_lines (lines_of s) ≡ s ++ (newline ∷ [])
unfolding lines_of
lines_again_last s q =
    joined_append (whole_lines s) (last_line (line_begun s))
    ∙ ap (λ (r : List ℕ). joined_lines (whole_lines s) ++ r) (joined_last (line_begun s) q)
    ∙ sym (append_assoc (joined_lines (whole_lines s)) (line_begun s) (newline ∷ []))
    ∙ ap (λ (r : List ℕ). r ++ (newline ∷ [])) (joined_begun s)

last_bare : (r : List ℕ) → whole_lines r ≡ [] → AllBare (last_line r)
unfolding last_line
last_bare [] h = All-nil IsBare
last_bare (b ∷ r) h = All-cons IsBare (b ∷ r) [] h (All-nil IsBare)

all_none : (ls : List (List ℕ)) (l : List ℕ) → AllBare ls → Memᴰ l ls → Memᴰ newline l → ⊥
all_none [] l h m n = Memᴰ.not-nil m
all_none (k ∷ ls) l h m n = ⊎_elim (λ e. bare_none l (ap whole_lines e ∙ All-head IsBare k ls h) n) (λ i. all_none ls l (All-tail IsBare k ls h) i n) (Memᴰ.cases_cons m)

-- no line holds a newline
pub lines_bare : (s l : List ℕ) → Memᴰ l (lines_of s) → Memᴰ newline l → ⊥
unfolding lines_of
lines_bare s l = all_none (lines_of s) l (All-append IsBare (whole_lines s) (last_line (line_begun s)) (whole_bare s) (last_bare (line_begun s) (begun_bare s)))

pub joined_most : (ls : List (List ℕ)) → length ls ≤ length (joined_lines ls)
unfolding joined_lines
joined_most [] = omega arith
joined_most (l ∷ ls) = omega (arith, length-append l (newline ∷ joined_lines ls), joined_most ls)

-- there are no more whole lines than bytes
pub whole_most : (s : List ℕ) → length (whole_lines s) ≤ length s
whole_most s = omega (arith, joined_most (whole_lines s), simp length-append at (ap length (joined_begun s)))

last_most : (r : List ℕ) → length (last_line r) ≤ length r
unfolding last_line
last_most [] = omega arith
last_most (b ∷ r) = omega arith

-- nor more lines
pub lines_most : (s : List ℕ) → length (lines_of s) ≤ length s
unfolding lines_of
lines_most s =
    omega (
      arith,
      length-append (whole_lines s) (last_line (line_begun s)),
      joined_most (whole_lines s),
      last_most (line_begun s),
      simp length-append at (ap length (joined_begun s)),
    )

-- ---- the first n whole lines taken off the front

module _ (n : ℕ) (s : List ℕ) where
  parts : joined_lines (take n (whole_lines s)) ++ (joined_lines (drop n (whole_lines s)) ++ line_begun s) ≡ s
  parts =
      sym (append_assoc (joined_lines (take n (whole_lines s))) (joined_lines (drop n (whole_lines s))) (line_begun s))
      ∙ ap (λ (t : List ℕ). t ++ line_begun s) (sym (joined_append (take n (whole_lines s)) (drop n (whole_lines s))))
      ∙ ap (λ (ls : List (List ℕ)). joined_lines ls ++ line_begun s) (take-append-drop n (whole_lines s))
      ∙ joined_begun s

  back : drop (length (joined_lines (take n (whole_lines s)))) s ≡ joined_lines (drop n (whole_lines s)) ++ line_begun s
  back =
      ap (drop (length (joined_lines (take n (whole_lines s))))) (sym parts)
      ∙ drop-append_seam (joined_lines (take n (whole_lines s))) (joined_lines (drop n (whole_lines s)) ++ line_begun s)

  -- what they use is no more than there is
  pub used_most : length (joined_lines (take n (whole_lines s))) ≤ length s
  used_most = omega (arith, simp length-append at (ap length parts))

  -- what is left has the other lines
  pub whole_off : whole_lines (drop (length (joined_lines (take n (whole_lines s)))) s) ≡ drop n (whole_lines s)
  whole_off =
      ap whole_lines back
      ∙ whole_joined (drop n (whole_lines s)) (line_begun s) (All-drop IsBare n (whole_lines s) (whole_bare s))
      ∙ ap (λ (ls : List (List ℕ)). drop n (whole_lines s) ++ ls) (begun_bare s)
      ∙ append-nil (drop n (whole_lines s))

-- ---- the first line, by where it ends

-- the bytes before the first newline, and whether there is one
pub record Ends (s : List ℕ) (n : ℕ) : Type 0 where
  pub most : n ≤ length s
  pub bare : whole_lines (take n s) ≡ []
  pub then : n < length s → s ≡ take n s ++ (newline ∷ drop (suc n) s)

pub ends : (s : List ℕ) → Ends s (line_end s)
unfolding line_end whole_lines
ends [] = record { most = omega arith; bare = refl; then = λ h. absurd (omega arith) }
ends (b ∷ s) =
    elim (ℕ_discrete b newline) [
      | yes e ↦ rw (eq-eqb b newline e) (record { most = omega arith; bare = refl; then = λ h. ap (λ (c : ℕ). c ∷ s) e })
      | no q ↦
          let r : Ends s (line_end s) = ends s in
          rw (ne_eqb b newline q)
          (record {
            most = let m : line_end s ≤ length s = r.most in omega arith;
            bare = bare_cons b (take (line_end s) s) q r.bare;
            then = λ h. ap (λ (t : List ℕ). b ∷ t) (r.then (omega arith));
          })
    ]

-- with a newline: the bytes before it are the first line
pub whole_first : (s : List ℕ) → line_end s < length s → whole_lines s ≡ take (line_end s) s ∷ whole_lines (drop (suc (line_end s)) s)
whole_first s h = ap whole_lines ((ends s).then h) ∙ whole_line (take (line_end s) s) (drop (suc (line_end s)) s) (ends s).bare

-- without one there is no whole line
pub whole_none : (s : List ℕ) → length s ≤ line_end s → whole_lines s ≡ []
whole_none s h = ap whole_lines (sym (take_all (line_end s) s h)) ∙ (ends s).bare

-- ---- the line at a place of an input, by the newline that `find_newline` finds

module _ (l : List ℕ) (from e : ℕ) (found : e ≡ from + line_end (drop from l)) where
  -- with a newline at e: the line from `from` to e, and what follows e
  pub line_at : e < length l → whole_lines (drop from l) ≡ take (e - from) (drop from l) ∷ whole_lines (drop (e + 1) l)
  line_at h =
      let n : ℕ = line_end (drop from l) in
      let long : length (drop from l) ≡ length l - from = length-drop from l in
      let first : n ≡ e - from = omega arith in
      let behind : from + suc n ≡ e + 1 = omega arith in
      whole_first (drop from l) (omega arith)
      ∙ ap (λ (k : ℕ). take k (drop from l) ∷ whole_lines (drop (suc n) (drop from l))) first
      ∙ ap (λ (t : List ℕ). take (e - from) (drop from l) ∷ whole_lines t) (drop-drop (suc n) from l ∙ ap (λ (k : ℕ). drop k l) behind)

  -- without one: no whole line is left
  pub line_none : length l ≤ e → whole_lines (drop from l) ≡ []
  line_none h = whole_none (drop from l) (omega (arith, length-drop from l))
