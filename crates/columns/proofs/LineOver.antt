-- What the line reader answers and leaves in its array is what the line says.
use Rattle.std.proofs.Common.{◌≡◌, ℕ, zero, suc, ◌*◌, ◌/◌, ◌<◌, ◌≤◌, true, false, List, ◌∷◌, length, take, drop, sym, refl, ap, ◌∙◌, arith, length-append, le-ltb, lt-ltb, le-leb, Option, Some, None, Result, Ok, Err}
use native.Mathlib.Decide.{dec_le}
use mathlib.Core.Bool.{and-false}
use lib.Seq.{take-append_seam}
use borrow.Author.Tests.{lt-leb}
use Rattle.columns.specs.declared.line.LineError.{LineError}
use Rattle.columns.specs.declared.line.LineError.TheVariants.{Broken, NoRoom}
use Rattle.columns.specs.Field.{field_width, field_read}
use Rattle.columns.specs.Line.{fields, length_ok, read_within, count_answer, line_answer, up_to, leading, over, numbers_over}
use Rattle.columns.proofs.LineAgain.{length_right, length_long, within_ok, Before, before_is, IsLine, line_only}
use Rattle.columns.proofs.Writing.{length_line}

-- ---- by the line's length and the places

module _ (limit : ℕ) (s a : List ℕ) where
  -- a bad length
  pub bad_answer : (places : ℕ) → length_ok limit (length s) ≡ false → Err Broken ≡ line_answer limit s places
  unfolding line_answer read_within
  bad_answer places bad = simp bad

  pub bad_over : length_ok limit (length s) ≡ false → a ≡ numbers_over limit s a
  unfolding numbers_over
  bad_over bad = simp bad

  -- too few places
  pub few_answer : length_ok limit (length s) ≡ true → length a < length s / field_width → Err NoRoom ≡ line_answer limit s (length a)
  unfolding line_answer
  few_answer ok few = simp (ok, lt-ltb (length a) (length s / field_width) few)

  pub few_over : length a < length s / field_width → a ≡ numbers_over limit s a
  unfolding numbers_over
  few_over few = simp (lt-leb (length s / field_width) (length a) few, and-false)

  -- room for every field
  pub room_answer : length_ok limit (length s) ≡ true → length s / field_width ≤ length a → line_answer limit s (length a) ≡ count_answer (fields (length s / field_width) s)
  unfolding line_answer read_within
  room_answer ok room = simp (ok, le-ltb (length a) (length s / field_width) room)

  pub room_over : length_ok limit (length s) ≡ true → length s / field_width ≤ length a → numbers_over limit s a ≡ over (leading (length s / field_width) s) a
  unfolding numbers_over
  room_over ok room = simp (ok, le-leb (length s / field_width) (length a) room)

-- ---- by what the line says

-- as many places as the limit are enough
pub enough : (limit : ℕ) (s : List ℕ) (places : ℕ) → limit ≤ places → line_answer limit s places ≡ count_answer (read_within limit s)
unfolding line_answer
enough limit s places h =
    elim (dec_le (length s) (field_width * limit)) [
      | yes most ↦ simp (le-ltb places (length s / field_width) (omega arith), and-false)
      | no long ↦ simp (length_long limit (length s) (omega arith))
    ]

-- fields that are read have no bad one
leading_read : (k : ℕ) (s ns : List ℕ) → fields k s ≡ Some ns → leading k s ≡ ns
unfolding fields leading up_to
leading_read zero s ns h = cc
leading_read (suc k) s ns h =
    let b : Before (field_read (take field_width s)) (fields k (drop field_width s)) ns =
    before_is (field_read (take field_width s)) (fields k (drop field_width s)) ns h in
    ap (λ (f : Option ℕ). up_to f (leading k (drop field_width s))) b.is_field
    ∙ ap (λ (l : List ℕ). b.first ∷ l) (leading_read k (drop field_width s) b.rest b.is_rest)
    ∙ b.is

-- a line that is read has its numbers at the array's start
over_read : (limit : ℕ) (s a ns : List ℕ) → limit ≤ length a → read_within limit s ≡ Some ns → numbers_over limit s a ≡ over ns a
over_read limit s a ns h e =
    let l : IsLine limit s ns = line_only limit s ns e in
    let long : length s ≡ field_width * length ns = ap length l.is ∙ length_line ns in
    let some : 0 < length ns = l.some in
    let most : length ns ≤ limit = l.most in
    let ok : length_ok limit (length s) ≡ true = length_right limit (length s) (omega arith) (omega arith) (omega arith) in
    let all : fields (length s / field_width) s ≡ Some ns = sym (within_ok limit s (omega arith) (omega arith) (omega arith)) ∙ e in
    room_over limit s a ok (omega arith) ∙ ap (λ (l : List ℕ). over l a) (leading_read (length s / field_width) s ns all)

-- a line was read into an array: these are its first numbers
pub record ReadInto (limit : ℕ) (s a : List ℕ) (n : ℕ) : Type 0 where
  pub is : read_within limit s ≡ Some (take n a)
  pub count : n ≡ length (take n a)
  pub among : n ≤ length a

into : (limit : ℕ) (s a ns b : List ℕ) (n : ℕ) → read_within limit s ≡ Some ns → length ns ≡ n → b ≡ over ns a → ReadInto limit s b n
into limit s a ns b n e k o =
    let front : take n b ≡ ns = ap (take n) o ∙ ap (λ (m : ℕ). take m (over ns a)) (sym k) ∙ take-append_seam ns (drop (length ns) a) in
    let long : length b ≡ length (over ns a) = ap length o in
    record {
      is = e ∙ ap Some (sym front);
      count = sym (ap length front ∙ k);
      among = omega (arith, long, length-append ns (drop (length ns) a), k);
    }

counted : (limit : ℕ) (s a : List ℕ) (n : ℕ) (x : Option (List ℕ)) → limit ≤ length a → read_within limit s ≡ x → count_answer x ≡ Ok n → ReadInto limit s (numbers_over limit s a) n
counted limit s a n (Some ns) h e k = let same : length ns ≡ n = cc in into limit s a ns (numbers_over limit s a) n e same (over_read limit s a ns h e)
counted limit s a n None h e k = cc

not_counted : (x : Option (List ℕ)) → ((n : ℕ) → count_answer x ≡ Ok n → ⊥) → x ≡ None
not_counted (Some ns) none = absurd (none (length ns) refl)
not_counted None none = refl

module _ (limit : ℕ) (s : List ℕ) where
  -- where a count is answered
  pub read_into : (a : List ℕ) (n : ℕ) → limit ≤ length a → line_answer limit s (length a) ≡ Ok n → ReadInto limit s (numbers_over limit s a) n
  read_into a n h e = counted limit s a n (read_within limit s) h refl (sym (enough limit s (length a) h) ∙ e)

  -- where none is
  pub read_not : (places : ℕ) → limit ≤ places → ((n : ℕ) → line_answer limit s places ≡ Ok n → ⊥) → read_within limit s ≡ None
  read_not places h none = not_counted (read_within limit s) (λ n e. none n (enough limit s places h ∙ e))

-- what a line says, by the answer of `read_line` and the array after it, where there was room
unfoldable pub reading_of : Result ℕ LineError → List ℕ → Option (List ℕ)
reading_of (Ok k) a = Some (take k a)
reading_of (Err e) a = None

reading_by : (limit : ℕ) (s a : List ℕ) (x : Option (List ℕ)) → limit ≤ length a → read_within limit s ≡ x → reading_of (count_answer x) (numbers_over limit s a) ≡ x
unfolding reading_of
reading_by limit s a (Some ns) h e =
    ap (λ (b : List ℕ). Some (take (length ns) b)) (over_read limit s a ns h e) ∙ ap Some (take-append_seam ns (drop (length ns) a))
reading_by limit s a None h e = refl

-- with room, the answer and the array after it are what the line says
pub reading_is : (limit : ℕ) (s a : List ℕ) → limit ≤ length a → reading_of (line_answer limit s (length a)) (numbers_over limit s a) ≡ read_within limit s
reading_is limit s a h =
    ap (λ (r : Result ℕ LineError). reading_of r (numbers_over limit s a)) (enough limit s (length a) h) ∙ reading_by limit s a (read_within limit s) h refl
