-- What the writers have put into a buffer after a turn of their loops is the fields of the numbers so far.
use Rattle.std.proofs.Common.{◌≡◌, ℕ, zero, suc, ◌+◌, ◌-◌, ◌*◌, ◌/◌, ◌%◌, ◌^◌, ◌<◌, ◌≤◌, ◌≢◌, List, [], ◌∷◌, ◌++◌, length, get_or, take, drop, set, sym, refl, ap, ◌∙◌, append_assoc, append-nil, mul_assoc, mul_comm, pow-suc, add-one, arith, length-append, length-drop, drop_of_length-le, length-take-le, drop-cons, take-suc, drop-drop, take_at, le-ltb, lt-ltb}
use native.Mathlib.Nat.{mul-le-mul_right}
use lib.ListN.{length-replicate}
use borrow.Rule.Slice.PartMut.{put_mid}
use lib.Seq.{set_at, take-length, drop-append-add}
use Rattle.columns.specs.Field.{field_width, space, columns, field_of, spaces, put}
use Rattle.columns.specs.Line.{line_of, written_over, over, put_over}
use Rattle.columns.proofs.FieldAgain.{spaces_one, columns_none, columns_more, length_field}

-- ---- put

-- a store behind what is put
pub put_more : (d : List ℕ) (at : ℕ) (s : List ℕ) (b : ℕ) → at + length s < length d → set (put d at s) (at + length s) b ≡ put d at (s ++ (b ∷ []))
unfolding put
put_more d at s b h =
    let tail : List ℕ = drop (suc (at + length s)) d in
    let long : length (take at d ++ s) ≡ at + length s = length-append (take at d) s ∙ ap (λ (k : ℕ). k + length s) (length-take-le at d (omega arith)) in
    let one : suc (at + length s) ≡ at + length (s ++ (b ∷ [])) = omega (arith, length-append s (b ∷ [])) in
    ap (λ (l : List ℕ). set (take at d ++ (s ++ l)) (at + length s) b) (drop-cons d (at + length s) 0 h)
    ∙ ap (λ (l : List ℕ). set l (at + length s) b) (sym (append_assoc (take at d) s (get_or d (at + length s) 0 ∷ tail)))
    ∙ set_at (take at d ++ s) (get_or d (at + length s) 0) tail b (at + length s) long
    ∙ append_assoc (take at d) s (b ∷ tail)
    ∙ ap (λ (l : List ℕ). take at d ++ l) (sym (append_assoc s (b ∷ []) tail))
    ∙ ap (λ (k : ℕ). take at d ++ ((s ++ (b ∷ [])) ++ drop k d)) one

pub length_put : (d : List ℕ) (at : ℕ) (s : List ℕ) → at + length s ≤ length d → length (put d at s) ≡ length d
unfolding put
length_put d at s h = simp (length-append, length-take-le at d (omega arith), length-drop) (omega arith)

-- a part of a buffer that was written
pub put_part : (d s : List ℕ) (at k : ℕ) → k ≡ length s → put_mid at k d s ≡ put d at s
unfolding put
put_part d s at k e =
    ap (λ (l : List ℕ). take at d ++ (s ++ l)) (drop-drop k at d) ∙ ap (λ (m : ℕ). take at d ++ (s ++ drop (at + m) d)) e

-- where there is room
pub put_room : (ns a : List ℕ) (at : ℕ) → at + length ns ≤ length a → put a at ns ≡ put_over at ns a
unfolding put_over
put_room ns a at h = simp (le-ltb (length a) (at + length ns) h)

-- and where there is none
pub put_short : (ns a : List ℕ) (at : ℕ) → length a < at + length ns → a ≡ put_over at ns a
unfolding put_over
put_short ns a at h = simp (lt-ltb (length a) (at + length ns) h)

-- ---- a field, from its last columns to its first

-- k pairs of digits are written behind spaces, which stand for the columns of rest
pub record Partly (out : List ℕ) (n k rest : ℕ) : Type 0 where
  pub few : k ≤ 4
  pub small : rest * 100 ^ k ≤ n
  pub last : List ℕ
  pub whole : columns (10 - 2 * k) (rest / 10) ++ ((48 + rest % 10) ∷ last) ≡ field_of n
  pub is : out ≡ spaces (11 - 2 * k) ++ last

-- the place of the pair that is written next
abbrev pub pair_place : ℕ → ℕ
pair_place k = get_or (9 ∷ 7 ∷ 5 ∷ 3 ∷ 1 ∷ []) k 0

pair_place_is : (k : ℕ) → k ≤ 4 → pair_place k ≡ 9 - 2 * k
pair_place_is zero h = refl
pair_place_is (suc zero) h = refl
pair_place_is (suc (suc zero)) h = refl
pair_place_is (suc (suc (suc zero))) h = refl
pair_place_is (suc (suc (suc (suc zero)))) h = refl
pair_place_is (suc (suc (suc (suc (suc k))))) h = absurd (omega arith)

-- a store at the last space
store : (j : ℕ) (last : List ℕ) (b : ℕ) → set (spaces (suc j) ++ last) j b ≡ spaces j ++ (b ∷ last)
store j last b =
    ap (λ (l : List ℕ). set (l ++ last) j b) (spaces_one j)
    ∙ ap (λ (l : List ℕ). set l j b) (append_assoc (spaces j) (spaces 1) last)
    ∙ set_at (spaces j) space last b j (length-replicate j space)

pub partly_first : (n : ℕ) → Partly (spaces field_width) n 0 n
unfolding field_of
partly_first n = record { few = omega arith; small = omega arith; last = []; whole = refl; is = sym (append-nil (spaces field_width)) }

module _ (out : List ℕ) (n k rest : ℕ) (p : Partly out n k rest) where
  -- the last column that is a space yet gets its digit
  put_last : (b : ℕ) → set out (10 - 2 * k) b ≡ spaces (10 - 2 * k) ++ (b ∷ p.last)
  put_last b =
      let few : k ≤ 4 = p.few in
      let one : 11 - 2 * k ≡ suc (10 - 2 * k) = omega arith in
      ap (λ (l : List ℕ). set l (10 - 2 * k) b) (p.is ∙ ap (λ (m : ℕ). spaces m ++ p.last) one) ∙ store (10 - 2 * k) p.last b

  -- the first digit alone
  pub partly_one : rest < 10 → set out (pair_place k + 1) (48 + rest) ≡ field_of n
  partly_one q =
      let few : k ≤ 4 = p.few in
      let none : 0 ≡ rest / 10 = omega arith in
      let same : rest ≡ rest % 10 = omega arith in
      let at : pair_place k + 1 ≡ 10 - 2 * k = omega (arith, pair_place_is k few) in
      ap (λ (i : ℕ). set out i (48 + rest)) at
      ∙ put_last (48 + rest)
      ∙ ap (λ (b : ℕ). spaces (10 - 2 * k) ++ ((48 + b) ∷ p.last)) same
      ∙ ap (λ (l : List ℕ). l ++ ((48 + rest % 10) ∷ p.last)) (sym (columns_none (10 - 2 * k)))
      ∙ ap (λ (m : ℕ). columns (10 - 2 * k) m ++ ((48 + rest % 10) ∷ p.last)) none
      ∙ p.whole

  module _ (more : 10 ≤ rest) (next : List ℕ) (e : next ≡ set (set out (pair_place k + 1) (48 + rest % 100 % 10)) (pair_place k) (48 + rest % 100 / 10)) where
    -- the pair behind the spaces
    pair : List ℕ
    pair = (48 + rest / 10 % 10) ∷ (48 + rest % 10) ∷ p.last

    put_pair : next ≡ spaces (9 - 2 * k) ++ pair
    unfolding pair
    put_pair =
        let few : k ≤ 4 = p.few in
        let one : 10 - 2 * k ≡ suc (9 - 2 * k) = omega arith in
        let low : rest % 100 % 10 ≡ rest % 10 = omega arith in
        let high : rest % 100 / 10 ≡ rest / 10 % 10 = omega arith in
        let at : pair_place k ≡ 9 - 2 * k = pair_place_is k few in
        let behind : pair_place k + 1 ≡ 10 - 2 * k = omega arith in
        e
        ∙ ap (λ (i : ℕ). set (set out i (48 + rest % 100 % 10)) (pair_place k) (48 + rest % 100 / 10)) behind
        ∙ ap (λ (i : ℕ). set (set out (10 - 2 * k) (48 + rest % 100 % 10)) i (48 + rest % 100 / 10)) at
        ∙ ap (λ (l : List ℕ). set l (9 - 2 * k) (48 + rest % 100 / 10)) (put_last (48 + rest % 100 % 10))
        ∙ ap (λ (m : ℕ). set (spaces m ++ ((48 + rest % 100 % 10) ∷ p.last)) (9 - 2 * k) (48 + rest % 100 / 10)) one
        ∙ store (9 - 2 * k) ((48 + rest % 100 % 10) ∷ p.last) (48 + rest % 100 / 10)
        ∙ ap (λ (b : ℕ). spaces (9 - 2 * k) ++ ((48 + b) ∷ (48 + rest % 100 % 10) ∷ p.last)) high
        ∙ ap (λ (b : ℕ). spaces (9 - 2 * k) ++ ((48 + rest / 10 % 10) ∷ (48 + b) ∷ p.last)) low

    whole_pair : columns (9 - 2 * k) (rest / 10 / 10) ++ pair ≡ field_of n
    unfolding pair
    whole_pair =
        let few : k ≤ 4 = p.few in
        let one : suc (9 - 2 * k) ≡ 10 - 2 * k = omega arith in
        sym (columns_more (9 - 2 * k) (rest / 10) ((48 + rest % 10) ∷ p.last) (omega arith))
        ∙ ap (λ (m : ℕ). columns m (rest / 10) ++ ((48 + rest % 10) ∷ p.last)) one
        ∙ p.whole

    -- the first two digits
    pub partly_two : rest / 100 ≡ 0 → next ≡ field_of n
    partly_two q =
        let none : 0 ≡ rest / 10 / 10 = omega arith in
        put_pair
        ∙ ap (λ (l : List ℕ). l ++ pair) (sym (columns_none (9 - 2 * k)))
        ∙ ap (λ (m : ℕ). columns (9 - 2 * k) m ++ pair) none
        ∙ whole_pair

    -- two digits more
    pub partly_pair : n < 2 ^ 32 → (rest / 100 ≡ 0 → ⊥) → Partly next n (k + 1) (rest / 100)
    unfolding pair
    partly_pair fits q =
        let few : k ≤ 4 = p.few in
        let small : rest * 100 ^ k ≤ n = p.small in
        let least : rest / 100 * 100 * 100 ^ k ≤ rest * 100 ^ k = mul-le-mul_right (100 ^ k) (omega arith) in
        let power : rest / 100 * 100 * 100 ^ k ≡ rest / 100 * 100 ^ suc k = mul_assoc (rest / 100) 100 (100 ^ k) ∙ ap (λ (m : ℕ). rest / 100 * m) (mul_comm 100 (100 ^ k) ∙ sym (pow-suc 100 k)) in
        let under : k ≢ 4 = λ e. let s : rest * 100 ^ 4 ≤ n = rw e at small in omega arith in
        let two : 9 - 2 * k ≡ suc (10 - 2 * (k + 1)) = omega arith in
        let hundred : rest / 10 / 10 ≡ rest / 100 = omega arith in
        record {
          few = omega arith;
          small = rw (add-one k) (omega arith);
          last = pair;
          whole =
              sym (columns_more (10 - 2 * (k + 1)) (rest / 100) pair (omega arith))
              ∙ ap (λ (m : ℕ). columns m (rest / 100) ++ pair) (sym two)
              ∙ ap (λ (m : ℕ). columns (9 - 2 * k) m ++ pair) (sym hundred)
              ∙ whole_pair;
          is = put_pair ∙ ap (λ (m : ℕ). spaces m ++ pair) (omega arith);
        }

-- ---- several fields

pub length_line : (ns : List ℕ) → length (line_of ns) ≡ field_width * length ns
unfolding line_of
length_line [] = refl
length_line (n ∷ ns) =
    let h : length (line_of ns) ≡ field_width * length ns = length_line ns in
    length-append (field_of n) (line_of ns) ∙ omega (arith, length_field n)

pub line_append : (ns ms : List ℕ) → line_of (ns ++ ms) ≡ line_of ns ++ line_of ms
unfolding line_of
line_append [] ms = refl
line_append (n ∷ ns) ms = ap (λ (l : List ℕ). field_of n ++ l) (line_append ns ms) ∙ sym (append_assoc (field_of n) (line_of ns) (line_of ms))

-- bytes put where the front ends
pub put_seam : (p d : List ℕ) (at : ℕ) (f : List ℕ) → length p ≡ at → put (p ++ drop at d) at f ≡ (p ++ f) ++ drop (at + length f) d
unfolding put
put_seam p d at f e =
    let back : drop (at + length f) (p ++ drop at d) ≡ drop (at + length f) d =
    ap (λ (k : ℕ). drop (k + length f) (p ++ drop at d)) (sym e) ∙ drop-append-add p (drop at d) (length f) ∙ drop-drop (length f) at d in
    ap (λ (l : List ℕ). l ++ (f ++ drop (at + length f) (p ++ drop at d))) (take_at p (drop at d) at e)
    ∙ ap (λ (l : List ℕ). p ++ (f ++ l)) back
    ∙ sym (append_assoc p f (drop (at + length f) d))

-- numbers put behind those at an array's start
pub put_behind : (p q d n m : List ℕ) (at : ℕ) → length p ≡ at → at + length q ≤ length d → n ≡ over p d → m ≡ put_over at q n → m ≡ over (p ++ q) d
put_behind p q d n m at e h is put_is =
    let long : length n ≡ length d = ap length is ∙ length-append p (drop (length p) d) ∙ omega (arith, length-drop (length p) d) in
    let size : at + length q ≡ length (p ++ q) = omega (arith, length-append p q) in
    put_is
    ∙ sym (put_room q n at (omega (arith, long)))
    ∙ ap (λ (l : List ℕ). put l at q) (is ∙ ap (λ (k : ℕ). p ++ drop k d) e)
    ∙ put_seam p d at q e
    ∙ ap (λ (k : ℕ). (p ++ q) ++ drop k d) size

-- numbers that take the whole array
pub over_all : (p d : List ℕ) → length p ≡ length d → over p d ≡ p
over_all p d e = ap (λ (l : List ℕ). p ++ l) (drop_of_length-le d {i = length p} (omega arith)) ∙ append-nil p

-- three parts, one behind the other, that take the whole array
pub put_three :
    (x y z a b c d n m o : List ℕ) (j k : ℕ) →
    a ≡ x →
    b ≡ y →
    c ≡ z →
    length x ≡ j →
    j + length y ≡ k →
    k + length z ≡ length d →
    n ≡ put_over 0 a d →
    m ≡ put_over j b n →
    o ≡ put_over k c m →
    o ≡ x ++ (y ++ z)
put_three x y z a b c d n m o j k ea eb ec jx ky kz p q r =
    let two : length (x ++ y) ≡ k = length-append x y ∙ omega arith in
    let all : length ((x ++ y) ++ z) ≡ length d = length-append (x ++ y) z ∙ omega arith in
    let first : n ≡ over x d = put_behind [] x d d n 0 refl (omega arith) refl (p ∙ ap (λ (l : List ℕ). put_over 0 l d) ea) in
    let second : m ≡ over (x ++ y) d = put_behind x y d n m j jx (omega arith) first (q ∙ ap (λ (l : List ℕ). put_over j l n) eb) in
    put_behind (x ++ y) z d m o k two (omega arith) second (r ∙ ap (λ (l : List ℕ). put_over k l m) ec) ∙ over_all ((x ++ y) ++ z) d all ∙ append_assoc x y z

one_more : (ns : List ℕ) (k : ℕ) → k < length ns → line_of (take k ns) ++ field_of (get_or ns k 0) ≡ line_of (take (k + 1) ns)
unfolding line_of
one_more ns k h =
    ap (λ (l : List ℕ). line_of (take k ns) ++ l) (sym (append-nil (field_of (get_or ns k 0))))
    ∙ sym (line_append (take k ns) (get_or ns k 0 ∷ []))
    ∙ ap line_of (sym (take-suc ns k 0 h))
    ∙ ap (λ (m : ℕ). line_of (take m ns)) (sym (add-one k))

pub numbers_next : (d ns : List ℕ) (k : ℕ) → k < length ns
    → put (line_of (take k ns) ++ drop (field_width * k) d) (field_width * k) (field_of (get_or ns k 0)) ≡ line_of (take (k + 1) ns) ++ drop (field_width * (k + 1)) d
numbers_next d ns k h =
    let f : List ℕ = field_of (get_or ns k 0) in
    let front : length (line_of (take k ns)) ≡ field_width * k =
    length_line (take k ns) ∙ ap (λ (m : ℕ). field_width * m) (length-take-le k ns (omega arith)) in
    let wide : field_width * k + length f ≡ field_width * (k + 1) = omega (arith, length_field (get_or ns k 0)) in
    put_seam (line_of (take k ns)) d (field_width * k) f front
    ∙ ap (λ (l : List ℕ). l ++ drop (field_width * k + length f) d) (one_more ns k h)
    ∙ ap (λ (m : ℕ). line_of (take (k + 1) ns) ++ drop m d) wide

-- the first k numbers are written
pub record Wrote (d ns out : List ℕ) (k : ℕ) : Type 0 where
  pub is : out ≡ line_of (take k ns) ++ drop (field_width * k) d
  pub long : length out ≡ length d

pub wrote_first : (d ns : List ℕ) → Wrote d ns d 0
unfolding line_of
wrote_first d ns = record { is = refl; long = refl }

pub wrote_next : (d ns out f : List ℕ) (k : ℕ) → k < length ns → length ns ≤ length d / field_width → f ≡ field_of (get_or ns k 0) → Wrote d ns out k
    → Wrote d ns (put_mid (k * 11) ((k + 1) * 11 - k * 11) out f) (k + 1)
wrote_next d ns out f k h room e w =
    let long : length out ≡ length d = w.long in
    let wide : length f ≡ field_width = ap length e ∙ length_field (get_or ns k 0) in
    let place : k * 11 ≡ field_width * k = omega arith in
    let part : put_mid (k * 11) ((k + 1) * 11 - k * 11) out f ≡ put out (field_width * k) f =
    put_part out f (k * 11) ((k + 1) * 11 - k * 11) (omega arith) ∙ ap (λ (i : ℕ). put out i f) place in
    record {
      is =
          part
          ∙ ap (put out (field_width * k)) e
          ∙ ap (λ (l : List ℕ). put l (field_width * k) (field_of (get_or ns k 0))) w.is
          ∙ numbers_next d ns k h;
      long = ap length part ∙ length_put out (field_width * k) f (omega arith) ∙ long;
    }

-- without room nothing is written
pub no_room : (ns out : List ℕ) → length out / field_width < length ns → out ≡ written_over ns out
unfolding written_over
no_room ns out h = simp (lt-ltb (length out) (field_width * length ns) (omega arith))

-- with room all fields are
pub wrote_all : (d ns out : List ℕ) (k : ℕ) → k ≡ length ns → length ns ≤ length d / field_width → Wrote d ns out k → out ≡ written_over ns d
unfolding written_over
wrote_all d ns out k e h w =
    simp (le-ltb (length d) (field_width * length ns) (omega arith))
    (w.is
    ∙ ap (λ (m : ℕ). line_of (take m ns) ++ drop (field_width * m) d) e
    ∙ ap (λ (l : List ℕ). line_of l ++ drop (field_width * length ns) d) (take-length ns))
