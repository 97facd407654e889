-- A field that is written is read as its number, and a field that is read is the one that its number is written as.
use Rattle.std.proofs.Common.{◌≡◌, ℕ, zero, suc, ◌+◌, ◌-◌, ◌*◌, ◌/◌, ◌%◌, ◌^◌, ◌<◌, ◌≤◌, List, [], ◌∷◌, ◌++◌, length, sym, refl, ap, ◌∙◌, append_assoc, append-nil, add-zero, mul_assoc, mul_comm, pow-suc, add-one, arith, length-append, le-ltb, lt-ltb, eq-eqb, ne_eqb, le-leb, Option, Some}
use native.Mathlib.Decide.{ℕ_discrete, dec_le, dec_lt}
use lib.ListN.{replicate-append-replicate}
use borrow.Author.Tests.{lt-leb}
use Rattle.columns.specs.Field.{field_width, number_limit, space, in_range, digits, first_digit, spaced, field_read, column, columns, field_of, spaces}

-- one decimal digit more
pub digits_more : (v b : ℕ) (s : List ℕ) → 48 ≤ b → b ≤ 57 → digits v (b ∷ s) ≡ digits (v * 10 + (b - 48)) s
unfolding digits
digits_more v b s low high = simp (le-leb 48 b low, le-leb b 57 high)

-- a number in range is itself
pub in_range_some : (v : ℕ) → v < number_limit → in_range v ≡ Some v
unfolding in_range
in_range_some v h = simp (lt-ltb v number_limit h)

-- one space more
pub spaces_one : (k : ℕ) → spaces (suc k) ≡ spaces k ++ spaces 1
spaces_one k = ap spaces (sym (add-one k)) ∙ sym (replicate-append-replicate k 1 _)

-- where nothing is left there are spaces
pub columns_none : (k : ℕ) → columns k 0 ≡ spaces k
unfolding columns column
columns_none zero = refl
columns_none (suc k) = ap (λ (l : List ℕ). l ++ spaces 1) (columns_none k) ∙ sym (spaces_one k)

pub length_columns : (k n : ℕ) → length (columns k n) ≡ k
unfolding columns
length_columns zero n = refl
length_columns (suc k) n =
    let h : length (columns k (n / 10)) ≡ k = length_columns k (n / 10) in
    length-append (columns k (n / 10)) (column n ∷ []) ∙ ap (λ (m : ℕ). m + 1) h ∙ add-one k

pub length_field : (n : ℕ) → length (field_of n) ≡ field_width
unfolding field_of
length_field n =
    let h : length (columns (field_width - 1) (n / 10)) ≡ field_width - 1 = length_columns (field_width - 1) (n / 10) in
    length-append (columns (field_width - 1) (n / 10)) ((48 + n % 10) ∷ []) ∙ ap (λ (m : ℕ). m + 1) h

-- spaces in front are passed
pub spaced_pass : (k : ℕ) (s : List ℕ) → spaced (spaces k ++ s) ≡ spaced s
unfolding spaced
spaced_pass zero s = refl
spaced_pass (suc k) s = spaced_pass k s

-- a first digit that is not 0 begins a number
pub first_digit_is : (b : ℕ) (s : List ℕ) → (b ≡ 48 → ⊥) → first_digit b s ≡ digits 0 (b ∷ s)
unfolding first_digit
first_digit_is b [] h = refl
first_digit_is b (a ∷ s) h = simp (ne_eqb b 48 h)

pub spaced_digit : (b : ℕ) (s : List ℕ) → (b ≡ space → ⊥) → spaced (b ∷ s) ≡ first_digit b s
unfolding spaced
spaced_digit b s h = simp (ne_eqb b space h)

-- the last digit of n after the others
last_digit : (n : ℕ) (s : List ℕ) → digits (n / 10) ((48 + n % 10) ∷ s) ≡ digits n s
last_digit n s =
    let e : n / 10 * 10 + (48 + n % 10 - 48) ≡ n = omega arith in
    digits_more (n / 10) (48 + n % 10) s (omega arith) (omega arith) ∙ ap (λ (v : ℕ). digits v s) e

-- a first digit that is not 0
digit_begins : (m : ℕ) (s : List ℕ) → 0 < m → m < 10 → spaced ((48 + m % 10) ∷ s) ≡ digits m s
digit_begins m s low high =
    let e : 0 * 10 + (48 + m % 10 - 48) ≡ m = omega arith in
    spaced_digit (48 + m % 10) s (λ q. omega arith)
    ∙ first_digit_is (48 + m % 10) s (λ q. omega arith)
    ∙ digits_more 0 (48 + m % 10) s (omega arith) (omega arith)
    ∙ ap (λ (v : ℕ). digits v s) e

column_digit : (m : ℕ) → 0 < m → column m ≡ 48 + m % 10
unfolding column
column_digit m low = simp (ne_eqb m 0 (λ q. omega arith))

-- one column more
pub columns_more : (k m : ℕ) (s : List ℕ) → 0 < m → columns (suc k) m ++ s ≡ columns k (m / 10) ++ ((48 + m % 10) ∷ s)
unfolding columns
columns_more k m s low =
    append_assoc (columns k (m / 10)) (column m ∷ []) s ∙ ap (λ (b : ℕ). columns k (m / 10) ++ (b ∷ s)) (column_digit m low)

-- spaces and then a digit that is not 0
alone : (k m : ℕ) (s : List ℕ) → m / 10 ≡ 0 → 0 < m → spaced (columns k (m / 10) ++ ((48 + m % 10) ∷ s)) ≡ digits m s
alone k m s e low =
    ap (λ (j : ℕ). spaced (columns k j ++ ((48 + m % 10) ∷ s))) e
    ∙ ap (λ (l : List ℕ). spaced (l ++ ((48 + m % 10) ∷ s))) (columns_none k)
    ∙ spaced_pass k ((48 + m % 10) ∷ s)
    ∙ digit_begins m s low (omega arith)

-- the columns of a number that is not 0, read from the first on
columns_read : (k m : ℕ) (s : List ℕ) → 0 < m → m < 10 ^ k → spaced (columns k m ++ s) ≡ digits m s
columns_read zero m s low high = absurd (omega arith)
columns_read (suc k) m s low high =
    ap spaced (columns_more k m s low)
    ∙ elim (ℕ_discrete (m / 10) 0) [
      | yes e ↦ alone k m s e low
      | no h ↦
          let below : m < 10 ^ k * 10 = rw (pow-suc 10 k) at high in
          columns_read k (m / 10) ((48 + m % 10) ∷ s) (omega arith) (omega arith) ∙ last_digit m s
    ]

-- one digit alone, 0 too
single : (b : ℕ) → 48 ≤ b → spaced (b ∷ []) ≡ digits 0 (b ∷ [])
unfolding first_digit
single b low = spaced_digit b [] (λ q. omega arith)

-- a field's columns, read
columns_last : (k n : ℕ) → n / 10 < 10 ^ k → spaced (columns k (n / 10) ++ ((48 + n % 10) ∷ [])) ≡ digits n []
columns_last k n h =
    elim (ℕ_discrete (n / 10) 0) [
      | yes e ↦
          ap (λ (j : ℕ). spaced (columns k j ++ ((48 + n % 10) ∷ []))) e
          ∙ ap (λ (l : List ℕ). spaced (l ++ ((48 + n % 10) ∷ []))) (columns_none k)
          ∙ spaced_pass k ((48 + n % 10) ∷ [])
          ∙ single (48 + n % 10) (omega arith)
          ∙ ap (λ (j : ℕ). digits j ((48 + n % 10) ∷ [])) (sym e)
          ∙ last_digit n []
      | no q ↦ columns_read k (n / 10) ((48 + n % 10) ∷ []) (omega arith) h ∙ last_digit n []
    ]

-- a number that is written is read again
pub read_written : (n : ℕ) → n < 2 ^ 32 → field_read (field_of n) ≡ Some n
unfolding field_read field_of digits
read_written n h =
    simp (eq-eqb (length (field_of n)) field_width (length_field n))
    (columns_last (field_width - 1) n (omega arith) ∙ in_range_some n (omega arith))

-- ---- the other way

-- what a range test lets through
range_is : (v n : ℕ) → in_range v ≡ Some n → (v ≡ n) × (v < number_limit)
unfolding in_range
range_is v n h =
    elim (dec_lt v number_limit) [
      | yes p ↦ let e : ◌≡◌ {A = Option ℕ} (Some v) (Some n) = simp (lt-ltb v number_limit p) at h in (cc, p)
      | no q ↦ cc (simp (le-ltb v number_limit (omega arith)) at h)
    ]

-- a byte that was read as one of the digits is one
record Digit (v b : ℕ) (s : List ℕ) (n : ℕ) : Type 0 where
  low : 48 ≤ b
  high : b ≤ 57
  next : digits (v * 10 + (b - 48)) s ≡ Some n

digit_is : (v b : ℕ) (s : List ℕ) (n : ℕ) → digits v (b ∷ s) ≡ Some n → Digit v b s n
unfolding digits
digit_is v b s n h =
    elim (dec_le 48 b) [
      | yes low ↦
          elim (dec_le b 57) [
            | yes high ↦ record { low = low; high = high; next = sym (digits_more v b s low high) ∙ h }
            | no q ↦ cc (simp (le-leb 48 b low, lt-leb b 57 (omega arith)) at h)
          ]
      | no q ↦ cc (simp (lt-leb 48 b (omega arith)) at h)
    ]

-- digits that write n, after others that gave v
pub digits_after : (v u : ℕ) (s : List ℕ) (n : ℕ) → digits u s ≡ Some n → digits (v + u) s ≡ in_range (v * 10 ^ length s + n)
unfolding digits
digits_after v u [] n h = let e : v + u ≡ v * 1 + n = let r = (range_is u n h).0 in omega arith in ap in_range e
digits_after v u (b ∷ s) n h =
    let d : Digit u b s n = digit_is u b s n h in
    let e : (v + u) * 10 + (b - 48) ≡ v * 10 + (u * 10 + (b - 48)) = omega arith in
    let p : v * 10 * 10 ^ length s ≡ v * 10 ^ suc (length s) =
    mul_assoc v 10 (10 ^ length s) ∙ ap (λ (m : ℕ). v * m) (mul_comm 10 (10 ^ length s) ∙ sym (pow-suc 10 (length s))) in
    digits_more (v + u) b s d.low d.high
    ∙ ap (λ (m : ℕ). digits m s) e
    ∙ digits_after (v * 10) (u * 10 + (b - 48)) s n d.next
    ∙ ap (λ (m : ℕ). in_range (m + n)) p

-- a number that was read is in range, and no less than its first digits
digits_range : (v : ℕ) (s : List ℕ) (n : ℕ) → digits v s ≡ Some n → (v ≤ n) × (n < number_limit)
unfolding digits
digits_range v [] n h = let r : (v ≡ n) × (v < number_limit) = range_is v n h in (omega arith, omega arith)
digits_range v (b ∷ s) n h =
    let d : Digit v b s n = digit_is v b s n h in
    let r : (v * 10 + (b - 48) ≤ n) × (n < number_limit) = digits_range (v * 10 + (b - 48)) s n d.next in
    (omega arith, r.1)

-- the columns so far and the digits to come are the number's columns
wrote_digits : (j v : ℕ) (s : List ℕ) (n : ℕ) → 0 < v → digits v s ≡ Some n → columns j v ++ s ≡ columns (j + length s) n
unfolding digits
wrote_digits j v [] n low h =
    append-nil (columns j v) ∙ ap (λ (k : ℕ). columns k v) (sym (add-zero j)) ∙ ap (λ (m : ℕ). columns (j + 0) m) (range_is v n h).0
wrote_digits j v (b ∷ s) n low h =
    let d : Digit v b s n = digit_is v b s n h in
    let w : ℕ = v * 10 + (b - 48) in
    let tens : w / 10 ≡ v = omega arith in
    let ones : 48 + w % 10 ≡ b = omega arith in
    let i : j + suc (length s) ≡ suc j + length s = omega arith in
    sym (columns_more j w s (omega arith)
    ∙ ap (λ (m : ℕ). columns j m ++ ((48 + w % 10) ∷ s)) tens
    ∙ ap (λ (c : ℕ). columns j v ++ (c ∷ s)) ones)
    ∙ wrote_digits (suc j) w s n (omega arith) d.next
    ∙ ap (λ (k : ℕ). columns k n) (sym i)

-- a field of k columns and one more
wide : ℕ → ℕ → List ℕ
wide k n = columns k (n / 10) ++ ((48 + n % 10) ∷ [])

-- spaces and one digit
wrote_single : (j b n : ℕ) → digits 0 (b ∷ []) ≡ Some n → spaces j ++ (b ∷ []) ≡ wide j n
unfolding digits wide
wrote_single j b n h =
    let d : Digit 0 b [] n = digit_is 0 b [] n h in
    let r : (0 * 10 + (b - 48) ≡ n) × (0 * 10 + (b - 48) < number_limit) = range_is (0 * 10 + (b - 48)) n d.next in
    let tens : 0 ≡ n / 10 = omega arith in
    let ones : b ≡ 48 + n % 10 = omega arith in
    ap (λ (l : List ℕ). l ++ (b ∷ [])) (sym (columns_none j))
    ∙ ap (λ (m : ℕ). columns j m ++ (b ∷ [])) tens
    ∙ ap (λ (c : ℕ). columns j (n / 10) ++ (c ∷ [])) ones

-- spaces and several digits, the first not 0
wrote_several : (j b : ℕ) (s : List ℕ) (n : ℕ) → (b ≡ 48 → ⊥) → digits 0 (b ∷ s) ≡ Some n → spaces j ++ (b ∷ s) ≡ wide (j + length s) n
unfolding wide
wrote_several j b s n q h =
    let d : Digit 0 b s n = digit_is 0 b s n h in
    let v : ℕ = 0 * 10 + (b - 48) in
    let r : (v ≤ n) × (n < number_limit) = digits_range v s n d.next in
    let tens : 0 ≡ v / 10 = omega arith in
    let ones : b ≡ 48 + v % 10 = omega arith in
    let i : suc j + length s ≡ suc (j + length s) = omega arith in
    ap (λ (l : List ℕ). l ++ (b ∷ s)) (sym (columns_none j))
    ∙ ap (λ (m : ℕ). columns j m ++ (b ∷ s)) tens
    ∙ ap (λ (c : ℕ). columns j (v / 10) ++ (c ∷ s)) ones
    ∙ sym (columns_more j v s (omega arith))
    ∙ wrote_digits (suc j) v s n (omega arith) d.next
    ∙ ap (λ (k : ℕ). columns k n) i
    ∙ sym (append-nil (columns (suc (j + length s)) n))
    ∙ columns_more (j + length s) n [] (omega arith)

wrote_first_digit : (j b : ℕ) (s : List ℕ) (n : ℕ) → first_digit b s ≡ Some n → spaces j ++ (b ∷ s) ≡ wide (j + length s) n
unfolding first_digit
wrote_first_digit j b [] n h = wrote_single j b n h ∙ ap (λ (k : ℕ). wide k n) (sym (add-zero j))
wrote_first_digit j b (a ∷ s) n h =
    elim (ℕ_discrete b 48) [
      | yes e ↦ cc (simp (eq-eqb b 48 e) at h)
      | no q ↦ wrote_several j b (a ∷ s) n q (simp (ne_eqb b 48 q) at h)
    ]

wrote_spaced : (j : ℕ) (s : List ℕ) (n : ℕ) → spaced s ≡ Some n → j + length s ≡ field_width → spaces j ++ s ≡ field_of n
unfolding spaced wide field_of
wrote_spaced j [] n h w = cc
wrote_spaced j (b ∷ s) n h w =
    elim (ℕ_discrete b space) [
      | yes e ↦
          ap (λ (c : ℕ). spaces j ++ (c ∷ s)) e
          ∙ sym (append_assoc (spaces j) (spaces 1) s)
          ∙ ap (λ (l : List ℕ). l ++ s) (sym (spaces_one j))
          ∙ wrote_spaced (suc j) s n (simp (eq-eqb b space e) at h) (omega arith)
      | no q ↦
          let k : j + length s ≡ field_width - 1 = omega arith in
          wrote_first_digit j b s n (simp (ne_eqb b space q) at h) ∙ ap (λ (m : ℕ). wide m n) k
    ]

-- a field that is read as a number is the one that the number is written as
pub read_only : (s : List ℕ) (n : ℕ) → field_read s ≡ Some n → s ≡ field_of n
unfolding field_read
read_only s n h =
    elim (ℕ_discrete (length s) field_width) [
      | yes e ↦ wrote_spaced 0 s n (simp (eq-eqb (length s) field_width e) at h) (omega arith)
      | no q ↦ cc (simp (ne_eqb (length s) field_width q) at h)
    ]

first_digit_range : (b : ℕ) (s : List ℕ) (n : ℕ) → first_digit b s ≡ Some n → n < number_limit
unfolding first_digit
first_digit_range b [] n h = (digits_range 0 (b ∷ []) n h).1
first_digit_range b (a ∷ s) n h =
    elim (ℕ_discrete b 48) [
      | yes e ↦ cc (simp (eq-eqb b 48 e) at h)
      | no q ↦ (digits_range 0 (b ∷ a ∷ s) n (simp (ne_eqb b 48 q) at h)).1
    ]

spaced_range : (s : List ℕ) (n : ℕ) → spaced s ≡ Some n → n < number_limit
unfolding spaced
spaced_range [] n h = cc
spaced_range (b ∷ s) n h =
    elim (ℕ_discrete b space) [
      | yes e ↦ spaced_range s n (simp (eq-eqb b space e) at h)
      | no q ↦ first_digit_range b s n (simp (ne_eqb b space q) at h)
    ]

-- a number that is read is one of 0..4294967295
pub read_range : (s : List ℕ) (n : ℕ) → field_read s ≡ Some n → n < 2 ^ 32
unfolding field_read
read_range s n h =
    elim (ℕ_discrete (length s) field_width) [
      | yes e ↦ spaced_range s n (simp (eq-eqb (length s) field_width e) at h)
      | no q ↦ cc (simp (ne_eqb (length s) field_width q) at h)
    ]
