-- A turn of the field reader's loop reads one digit more of the number that begins where the field's spaces end.
use Rattle.std.proofs.Common.{◌≡◌, ℕ, suc, ◌+◌, ◌-◌, ◌*◌, ◌^◌, ◌<◌, ◌≤◌, Bool, true, false, not, ◌==◌, Option, Some, None, List, [], ◌∷◌, length, get_or, take, drop, position, sym, refl, ap, ◌∙◌, subst, take_all, length-drop, get_or-drop, drop_of_length-le, pow-suc, add-zero, add-one, arith, eq-eqb, ne_eqb, le-leb, lt-ltb, le-ltb}
use native.Mathlib.Decide.{ℕ_discrete, dec_le, dec_lt}
use borrow.Author.Tests.{lt-leb}
use Rattle.std.specs.List.{position_or_len}
use Rattle.std.proofs.lemmas.List.{drop_more}
use Rattle.std.proofs.lemmas.List.Quantifiers.{position-Some}
use Rattle.columns.specs.Field.{field_width, space, in_range, digits, first_digit, spaced, field_read}
use Rattle.columns.proofs.FieldAgain.{digits_more, first_digit_is, spaced_digit}

-- ---- digits

-- a byte that is no digit
pub digits_none : (v b : ℕ) (s : List ℕ) → ((48 ≤ b) × (b ≤ 57) → ⊥) → digits v (b ∷ s) ≡ None
unfolding digits
digits_none v b s h =
    elim (dec_le 48 b) [
      | yes low ↦ elim (dec_le b 57) [ yes high ↦ absurd (h (low, high)) | no q ↦ simp (le-leb 48 b low, lt-leb b 57 (omega arith)) ]
      | no q ↦ simp (lt-leb 48 b (omega arith))
    ]

-- the first i digits of s gave v
pub record DigitsTo (s : List ℕ) (v i : ℕ) : Type 0 where
  pub small : v < 10 ^ i
  pub same : digits 0 s ≡ digits v (drop i s)

pub digits_next : (s : List ℕ) (v i r : ℕ) → i < length s → ((48 ≤ get_or s i 0) × (get_or s i 0 ≤ 57)) × (r ≡ get_or s i 0 - 48) → DigitsTo s v i → DigitsTo s (v * 10 + r) (i + 1)
digits_next s v i r h digit d =
    let small : v < 10 ^ i = d.small in
    let one : r ≤ 9 = omega (arith, digit.0.1, digit.1) in
    record {
      small = rw (add-one i, pow-suc 10 i) (omega arith);
      same =
          d.same
          ∙ ap (digits v) (drop_more s i 0 h)
          ∙ digits_more v (get_or s i 0) (drop (i + 1) s) digit.0.0 digit.0.1
          ∙ ap (λ (m : ℕ). digits (v * 10 + m) (drop (i + 1) s)) (sym digit.1);
    }

pub digits_stop : (s : List ℕ) (v i : ℕ) → i < length s → ((48 ≤ get_or s i 0) × (get_or s i 0 ≤ 57) → ⊥) → DigitsTo s v i → digits 0 s ≡ None
digits_stop s v i h q d = d.same ∙ ap (digits v) (drop_more s i 0 h) ∙ digits_none v (get_or s i 0) (drop (i + 1) s) q

pub digits_last : (s : List ℕ) (v i : ℕ) → length s ≤ i → DigitsTo s v i → digits 0 s ≡ in_range v
unfolding digits
digits_last s v i h d = d.same ∙ ap (digits v) (drop_of_length-le s {i = i} h)

-- ---- a field

-- the test of a byte that is no space
abbrev pub no_space : ℕ → Bool
no_space b = not (b == space)

pub spaced_from : (s : List ℕ) → spaced s ≡ spaced (drop (position_or_len no_space s) s)
unfolding spaced
spaced_from [] = refl
spaced_from (b ∷ s) =
    elim (ℕ_discrete b space) [
      | yes e ↦
          let k : ℕ = position_or_len no_space s in
          let one : suc k ≡ 1 + k = omega arith in
          simp (eq-eqb b space e) (spaced_from s ∙ ap (λ (i : ℕ). spaced (drop i (b ∷ s))) one)
      | no q ↦ simp (ne_eqb b space q)
    ]

pub field_spaced : (s : List ℕ) → length s ≡ field_width → field_read s ≡ spaced s
unfolding field_read
field_spaced s h = simp (eq-eqb (length s) field_width h)

-- the number of the field s is what its bytes n say, which begin with no space
pub record NumberIs (s n : List ℕ) : Type 0 where
  pub is : field_read s ≡ spaced n
  pub some : 0 < length n
  pub most : length n ≤ field_width
  pub first : get_or n 0 0 ≡ space → ⊥

module _ (s : List ℕ) (h : length s ≡ field_width) where
  -- only spaces
  pub plain_none : None ≡ position no_space s → field_read s ≡ None
  unfolding spaced
  plain_none e =
      elim (dec_lt (position_or_len no_space s) (length s)) [
        | yes p ↦ let z : ◌≡◌ {A = Option ℕ} None (Some (position_or_len no_space s)) = e ∙ simp (lt-ltb (position_or_len no_space s) (length s) p) in cc
        | no q ↦ field_spaced s h ∙ spaced_from s ∙ ap spaced (drop_of_length-le s {i = position_or_len no_space s} (omega arith))
      ]

  found : (i : ℕ) → Some i ≡ position no_space s → i ≡ position_or_len no_space s
  found i e =
      elim (dec_lt (position_or_len no_space s) (length s)) [
        | yes p ↦ let z : ◌≡◌ {A = Option ℕ} (Some i) (Some (position_or_len no_space s)) = e ∙ simp (lt-ltb (position_or_len no_space s) (length s) p) in cc
        | no q ↦ let z : ◌≡◌ {A = Option ℕ} (Some i) None = e ∙ simp (le-ltb (position_or_len no_space s) (length s) (omega arith)) in cc
      ]

  -- the bytes from the first on that is no space
  pub number_from : (i : ℕ) → Some i ≡ position no_space s → NumberIs s (take (field_width - i) (drop i s))
  number_from i e =
      let p = position-Some no_space s i 0 (sym e) in
      let n : List ℕ = drop i s in
      let all : take (field_width - i) n ≡ n = take_all (field_width - i) n (omega (arith, length-drop i s)) in
      let whole : NumberIs s n = record {
        is = field_spaced s h ∙ spaced_from s ∙ ap (λ (k : ℕ). spaced (drop k s)) (sym (found i e));
        some = omega (arith, length-drop i s, p.0);
        most = omega (arith, length-drop i s);
        first = λ q. let z : false ≡ true = simp (eq-eqb (get_or s i 0) space (ap (λ (k : ℕ). get_or s k 0) (sym (add-zero i)) ∙ sym (get_or-drop i s 0 0) ∙ q)) at p.1 in cc;
      } in
      subst (NumberIs s) (sym all) whole

-- a first 0 and more digits
leading_zero : (s n : List ℕ) → NumberIs s n → get_or n 0 0 ≡ 48 → 1 < length n → None ≡ field_read s
unfolding first_digit
leading_zero s [] d z more = absurd (omega arith)
leading_zero s (b ∷ []) d z more = absurd (omega arith)
leading_zero s (b ∷ a ∷ n) d z more = sym (d.is ∙ spaced_digit b (a ∷ n) d.first ∙ simp (eq-eqb b 48 z))

pub plain_leading : (s : List ℕ) → length s ≡ field_width → (i : ℕ) → Some i ≡ position no_space s →
    get_or (take (field_width - i) (drop i s)) 0 0 ≡ 48 →
    1 < length (take (field_width - i) (drop i s)) →
    None ≡ field_read s
plain_leading s h i e z more = leading_zero s _ (number_from s h i e) z more

-- what is read of the field is what the digits write
pub plain_digits : (s n : List ℕ) → NumberIs s n → (get_or n 0 0 ≡ 48 → 1 < length n → ⊥) → field_read s ≡ digits 0 n
unfolding first_digit
plain_digits s [] d q = absurd (omega (arith, d.some))
plain_digits s (b ∷ []) d q = d.is ∙ spaced_digit b [] d.first
plain_digits s (b ∷ a ∷ n) d q = d.is ∙ spaced_digit b (a ∷ n) d.first ∙ first_digit_is b (a ∷ n) (λ z. q z (omega arith))
