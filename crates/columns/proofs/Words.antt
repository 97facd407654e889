-- Eight bytes as one number are tested to be digits, and three steps join them to the number that they write.
use Rattle.std.proofs.Common.{◌≡◌, ℕ, zero, ◌+◌, ◌-◌, ◌*◌, ◌/◌, ◌%◌, ◌^◌, ◌<◌, ◌≤◌, suc, List, [], ◌∷◌, ◌++◌, length, get_or, take, drop, sym, refl, ap, ◌∙◌, subst, mul_assoc, mul_comm, pow-suc, add-zero, arith, take-append-drop, length-take-le, drop_of_length-le, length-drop, eq-eqb, Some, w64}
use lib.Bits.{bit_and, and_block, and_high, and_mask}
use Rattle.std.specs.Int.{to_le_bytes, from_le_bytes}
use Rattle.std.proofs.lemmas.Nat.{le_bytes_8}
use Rattle.std.proofs.lemmas.List.{drop_more}
use Rattle.columns.specs.Field.{field_width, space, in_range, digits, first_digit, spaced, field_read, spaces}
use Rattle.columns.proofs.FieldAgain.{digits_more, digits_after, first_digit_is, spaced_digit, spaced_pass}
use Rattle.columns.proofs.FieldTurns.{field_spaced}

-- ---- bytes

-- bytes as one number, the first the lowest
packed : List ℕ → ℕ
packed [] = 0
packed (b ∷ s) = packed s * 256 + b

-- as many bytes c
filled : ℕ → List ℕ → ℕ
filled c [] = 0
filled c (b ∷ s) = filled c s * 256 + c

-- every byte is one of low..high
abbrev pub Within : ℕ → ℕ → List ℕ → Type 0
Within low high [] = Unit
Within low high (b ∷ s) = (low ≤ b) × ((b ≤ high) × Within low high s)

-- the lowest bytes of two numbers that are the same
lowest : (m a n b : ℕ) → a < 256 → b < 256 → m * 256 + a ≡ n * 256 + b → a ≡ b
lowest m a n b h k e =
    let l : (m * 256 + a) % 256 ≡ a = omega arith in
    let r : (n * 256 + b) % 256 ≡ b = omega arith in
    sym l ∙ ap (λ (v : ℕ). v % 256) e ∙ r

-- ---- digits

-- the upper half of each byte is that of a digit
halves : (s : List ℕ) → Within 0 255 s → bit_and (packed s) (filled 240 s) ≡ filled 48 s → Within 48 63 s
unfolding packed filled
halves [] w h = tt
halves (b ∷ s) w h =
    let byte : b ≤ 255 = w.1.0 in
    let parts : bit_and (packed s * 256 + b) (filled 240 s * 256 + 240) ≡ bit_and (packed s) (filled 240 s) * 256 + bit_and b 240 =
    and_block 8 (packed s) (filled 240 s) b 240 (omega arith) (omega arith) in
    let high : bit_and b 240 ≡ b / 16 * 16 = and_high b 4 4 ∙ omega arith in
    let three : b / 16 * 16 ≡ 48 = lowest (bit_and (packed s) (filled 240 s)) (b / 16 * 16) (filled 48 s) 48 (omega arith) (omega arith) (omega arith) in
    (omega arith, (omega arith, halves s w.1.1 (omega arith)))

most : (s : List ℕ) → Within 48 63 s → packed s ≤ filled 63 s
unfolding packed filled
most [] w = omega arith
most (b ∷ s) w = let h : packed s ≤ filled 63 s = most s w.1.1 in let k : b ≤ 63 = w.1.0 in omega arith

-- six more in each byte
sixes : List ℕ → List ℕ
sixes [] = []
sixes (b ∷ s) = (b + 6) ∷ sixes s

packed_sixes : (s : List ℕ) → packed (sixes s) ≡ packed s + filled 6 s
unfolding packed filled sixes
packed_sixes [] = refl
packed_sixes (b ∷ s) = let h : packed (sixes s) ≡ packed s + filled 6 s = packed_sixes s in omega arith

filled_sixes : (c : ℕ) (s : List ℕ) → filled c (sixes s) ≡ filled c s
unfolding filled sixes
filled_sixes c [] = refl
filled_sixes c (b ∷ s) = ap (λ (m : ℕ). m * 256 + c) (filled_sixes c s)

sixes_bytes : (s : List ℕ) → Within 48 63 s → Within 0 255 (sixes s)
unfolding sixes
sixes_bytes [] w = tt
sixes_bytes (b ∷ s) w = let k : b ≤ 63 = w.1.0 in (omega arith, (omega arith, sixes_bytes s w.1.1))

sixes_digits : (s : List ℕ) → Within 48 63 s → Within 48 63 (sixes s) → Within 48 57 s
unfolding sixes
sixes_digits [] w v = tt
sixes_digits (b ∷ s) w v = let k : b + 6 ≤ 63 = v.1.0 in (w.0, (omega arith, sixes_digits s w.1.1 v.1.1))

are_digits : (s : List ℕ) → Within 0 255 s → bit_and (packed s) (filled 240 s) ≡ filled 48 s → bit_and (packed s + filled 6 s) (filled 240 s) ≡ filled 48 s
    → Within 48 57 s
are_digits s w h k =
    let half : Within 48 63 s = halves s w h in
    let e : bit_and (packed (sixes s)) (filled 240 (sixes s)) ≡ filled 48 (sixes s) =
    ap (λ (m : ℕ). bit_and m (filled 240 (sixes s))) (packed_sixes s)
    ∙ ap (λ (m : ℕ). bit_and (packed s + filled 6 s) m) (filled_sixes 240 s)
    ∙ k
    ∙ sym (filled_sixes 48 s) in
    sixes_digits s half (halves (sixes s) (sixes_bytes s half) e)

-- ---- their number

-- the numbers that bytes write as digits
lowered : List ℕ → List ℕ
lowered [] = []
lowered (b ∷ s) = (b - 48) ∷ lowered s

-- the number of decimal digits, after those that gave v
number : ℕ → List ℕ → ℕ
number v [] = v
number v (d ∷ s) = number (v * 10 + d) s

-- digits write less than the next power of ten
number_below : (v n : ℕ) (s : List ℕ) → Within 0 9 s → v < n → number v s < n * 10 ^ length s
unfolding number
number_below v n [] w h = omega arith
number_below v n (d ∷ s) w h =
    let p : n * 10 * 10 ^ length s ≡ n * 10 ^ suc (length s) = mul_assoc n 10 (10 ^ length s) ∙ ap (λ (m : ℕ). n * m) (mul_comm 10 (10 ^ length s) ∙ sym (pow-suc 10 (length s))) in
    let k : d ≤ 9 = w.1.0 in
    subst (λ (m : ℕ). number (v * 10 + d) s < m) p (number_below (v * 10 + d) (n * 10) s w.1.1 (omega arith))

digits_number : (v : ℕ) (s : List ℕ) → Within 48 57 s → digits v s ≡ in_range (number v (lowered s))
unfolding digits number lowered
digits_number v [] w = refl
digits_number v (b ∷ s) w = digits_more v b s w.0 w.1.0 ∙ digits_number (v * 10 + (b - 48)) s w.1.1

lowered_digits : (s : List ℕ) → Within 48 57 s → Within 0 9 (lowered s)
unfolding lowered
lowered_digits [] w = tt
lowered_digits (b ∷ s) w = let k : b ≤ 57 = w.1.0 in (omega arith, (omega arith, lowered_digits s w.1.1))

packed_lowered : (s : List ℕ) → Within 48 57 s → packed s ≡ packed (lowered s) + filled 48 s
unfolding packed filled lowered
packed_lowered [] w = refl
packed_lowered (b ∷ s) w =
    let h : packed s ≡ packed (lowered s) + filled 48 s = packed_lowered s w.1.1 in
    let k : 48 ≤ b = w.0 in
    omega arith

-- digits joined to pairs, pairs to fours, and fours to the number, as the code joins them
abbrev pub pairs_of : ℕ → ℕ
pairs_of x = bit_and (x * 10 + x / 256) 71777214294589695

abbrev pub fours_of : ℕ → ℕ
fours_of y = bit_and (y * 100 + y / 65536) 281470681808895

abbrev pub whole_of : ℕ → ℕ
whole_of z = (z * 10000 + z / 4294967296) % 4294967296

pair_part : (a m r c p : ℕ) → bit_and a m ≡ r → c < 65536 → c % 256 ≡ p → bit_and (a * 65536 + c) (m * 65536 + 255) ≡ r * 65536 + p
pair_part a m r c p e h q =
    let parts : bit_and (a * 65536 + c) (m * 65536 + 255) ≡ bit_and a m * 65536 + bit_and c 255 = and_block 16 a m c 255 h (omega arith) in
    let low : bit_and c 255 ≡ c % 256 = and_mask c 8 in
    omega arith

module _ (a b c d e f g h : ℕ) (w : Within 0 9 (a ∷ b ∷ c ∷ d ∷ e ∷ f ∷ g ∷ h ∷ [])) where
  pairs_are : pairs_of (packed (a ∷ b ∷ c ∷ d ∷ e ∷ f ∷ g ∷ h ∷ [])) ≡ (((g * 10 + h) * 65536 + (e * 10 + f)) * 65536 + (c * 10 + d)) * 65536 + (a * 10 + b)
  unfolding packed
  pairs_are =
      let x : ℕ = packed (a ∷ b ∷ c ∷ d ∷ e ∷ f ∷ g ∷ h ∷ []) in
      let k : ℕ = g * 10 + h + h * 10 * 256 in
      let l : ℕ = e * 10 + f + (f * 10 + g) * 256 in
      let m : ℕ = c * 10 + d + (d * 10 + e) * 256 in
      let n : ℕ = a * 10 + b + (b * 10 + c) * 256 in
      let split : x * 10 + x / 256 ≡ ((k * 65536 + l) * 65536 + m) * 65536 + n = omega arith in
      let top : bit_and k 255 ≡ k % 256 = and_mask k 8 in
      let top-is : bit_and k 255 ≡ g * 10 + h = omega arith in
      ap (λ (v : ℕ). bit_and v 71777214294589695) split
      ∙ pair_part ((k * 65536 + l) * 65536 + m) ((255 * 65536 + 255) * 65536 + 255) (((g * 10 + h) * 65536 + (e * 10 + f)) * 65536 + (c * 10 + d)) n (a * 10 + b)
      (pair_part (k * 65536 + l) (255 * 65536 + 255) ((g * 10 + h) * 65536 + (e * 10 + f)) m (c * 10 + d)
      (pair_part k 255 (g * 10 + h) l (e * 10 + f) top-is (omega arith) (omega arith)) (omega arith) (omega arith)) (omega arith) (omega arith)

fours_are : (p q r s : ℕ) → Within 0 99 (p ∷ q ∷ r ∷ s ∷ []) → fours_of (((s * 65536 + r) * 65536 + q) * 65536 + p) ≡ (r * 100 + s) * 4294967296 + (p * 100 + q)
fours_are p q r s w =
    let y : ℕ = ((s * 65536 + r) * 65536 + q) * 65536 + p in
    let k : ℕ = r * 100 + s + s * 100 * 65536 in
    let l : ℕ = p * 100 + q + (q * 100 + r) * 65536 in
    let split : y * 100 + y / 65536 ≡ k * 4294967296 + l = omega arith in
    let parts : bit_and (k * 4294967296 + l) (65535 * 4294967296 + 65535) ≡ bit_and k 65535 * 4294967296 + bit_and l 65535 = and_block 32 k 65535 l 65535 (omega arith) (omega arith) in
    let high : bit_and k 65535 ≡ r * 100 + s = and_mask k 16 ∙ omega arith in
    let low : bit_and l 65535 ≡ p * 100 + q = and_mask l 16 ∙ omega arith in
    ap (λ (v : ℕ). bit_and v 281470681808895) split
    ∙ parts
    ∙ ap (λ (v : ℕ). v * 4294967296 + bit_and l 65535) high
    ∙ ap (λ (v : ℕ). (r * 100 + s) * 4294967296 + v) low

low_part : (m a : ℕ) → a < 4294967296 → (m * 4294967296 + a) % 4294967296 ≡ a
low_part m a h = omega arith

whole_is : (p q : ℕ) → p < 10000 → q < 10000 → whole_of (q * 4294967296 + p) ≡ p * 10000 + q
whole_is p q h k =
    let high : (q * 4294967296 + p) / 4294967296 ≡ q = omega arith in
    let split : (q * 4294967296 + p) * 10000 + q ≡ q * 10000 * 4294967296 + (p * 10000 + q) = omega arith in
    ap (λ (v : ℕ). ((q * 4294967296 + p) * 10000 + v) % 4294967296) high
    ∙ ap (λ (v : ℕ). v % 4294967296) split
    ∙ low_part (q * 10000) (p * 10000 + q) (omega arith)

-- the number of eight digits, joined
module _ (a b c d e f g h : ℕ) (w : Within 0 9 (a ∷ b ∷ c ∷ d ∷ e ∷ f ∷ g ∷ h ∷ [])) where
  joined : whole_of (fours_of (pairs_of (packed (a ∷ b ∷ c ∷ d ∷ e ∷ f ∷ g ∷ h ∷ [])))) ≡ number 0 (a ∷ b ∷ c ∷ d ∷ e ∷ f ∷ g ∷ h ∷ [])
  unfolding number
  joined =
      ap (λ (y : ℕ). whole_of (fours_of y)) (pairs_are a b c d e f g h w)
      ∙ ap whole_of
      (fours_are (a * 10 + b) (c * 10 + d) (e * 10 + f) (g * 10 + h)
      (omega arith, (omega arith, (omega arith, (omega arith, (omega arith, (omega arith, (omega arith, (omega arith, tt)))))))))
      ∙ whole_is ((a * 10 + b) * 100 + (c * 10 + d)) ((e * 10 + f) * 100 + (g * 10 + h)) (omega arith) (omega arith)
      ∙ omega arith

-- ---- eight bytes of a list

within_bytes : (s : List ℕ) → ((i : ℕ) → get_or s i 0 < 256) → Within 0 255 s
within_bytes [] byte = tt
within_bytes (b ∷ s) byte = (omega arith, (omega (arith, byte 0), within_bytes s (λ i. byte (suc i))))

take_bytes : (n : ℕ) (s : List ℕ) → ((i : ℕ) → get_or s i 0 < 256) → (i : ℕ) → get_or (take n s) i 0 < 256
take_bytes zero s byte i = omega arith
take_bytes (suc n) [] byte i = omega arith
take_bytes (suc n) (b ∷ s) byte zero = byte 0
take_bytes (suc n) (b ∷ s) byte (suc i) = take_bytes n s (λ k. byte (suc k)) i

front : (b : ℕ) {s t : List ℕ} → s ≡ t → b ∷ s ≡ b ∷ t
front b e = ap (λ (l : List ℕ). b ∷ l) e

eight_bytes : List ℕ → List ℕ
eight_bytes l =
    get_or l 0 0 ∷ get_or l 1 0 ∷ get_or l 2 0 ∷ get_or l 3 0 ∷ get_or l 4 0 ∷ get_or l 5 0 ∷ get_or l 6 0 ∷ get_or l 7 0 ∷ []

eight_all : (l : List ℕ) → length l ≡ 8 → l ≡ eight_bytes l
unfolding eight_bytes
eight_all l long =
    drop_more l 0 0 (omega arith)
    ∙ front _ (drop_more l 1 0 (omega arith)
    ∙ front _ (drop_more l 2 0 (omega arith)
    ∙ front _ (drop_more l 3 0 (omega arith)
    ∙ front _ (drop_more l 4 0 (omega arith)
    ∙ front _ (drop_more l 5 0 (omega arith)
    ∙ front _ (drop_more l 6 0 (omega arith)
    ∙ front _ (drop_more l 7 0 (omega arith)
    ∙ front _ (drop_of_length-le l {i = 8} (omega arith)))))))))

eight_packed : (l : List ℕ) → from_le_bytes w64 l ≡ packed (eight_bytes l)
unfolding eight_bytes packed
eight_packed l = omega arith

module _ (l : List ℕ) (long : length l ≡ 8) (byte : (i : ℕ) → get_or l i 0 < 256) (w : ℕ) (is : w ≡ from_le_bytes w64 l) where
  bytes : Within 0 255 (eight_bytes l)
  bytes = subst (Within 0 255) (eight_all l long) (within_bytes l byte)

  module _ (half : bit_and w 17361641481138401520 ≡ 3472328296227680304) where
    half_packed : bit_and (packed (eight_bytes l)) (filled 240 (eight_bytes l)) ≡ filled 48 (eight_bytes l)
    unfolding eight_bytes filled
    half_packed = ap (λ (v : ℕ). bit_and v 17361641481138401520) (sym (is ∙ eight_packed l)) ∙ half

    -- digits leave room for six more in each byte
    pub eight_most : w ≤ 4557430888798830399
    unfolding eight_bytes filled
    eight_most = rw (is ∙ eight_packed l) (most (eight_bytes l) (halves (eight_bytes l) bytes half_packed))

    module _ (six : bit_and (w + 434041037028460038) 17361641481138401520 ≡ 3472328296227680304) where
      eight_are : Within 48 57 (eight_bytes l)
      unfolding eight_bytes filled
      eight_are =
          are_digits (eight_bytes l) bytes half_packed
          (ap (λ (v : ℕ). bit_and (v + 434041037028460038) 17361641481138401520) (sym (is ∙ eight_packed l)) ∙ six)

      -- what eight digits write
      pub eight_digits : digits 0 l ≡ in_range (whole_of (fours_of (pairs_of (w - 3472328296227680304))))
      unfolding eight_bytes filled lowered
      eight_digits =
          let s : List ℕ = eight_bytes l in
          let low : w - 3472328296227680304 ≡ packed (lowered s) = omega (arith, is ∙ eight_packed l, packed_lowered s eight_are) in
          ap (digits 0) (eight_all l long)
          ∙ digits_number 0 s eight_are
          ∙ ap in_range (sym (joined _ _ _ _ _ _ _ _ (lowered_digits s eight_are)))
          ∙ ap (λ (x : ℕ). in_range (whole_of (fours_of (pairs_of x)))) (sym low)

      pub eight_small : whole_of (fours_of (pairs_of (w - 3472328296227680304))) < 100000000
      unfolding eight_bytes filled lowered
      eight_small =
          let s : List ℕ = eight_bytes l in
          let low : w - 3472328296227680304 ≡ packed (lowered s) = omega (arith, is ∙ eight_packed l, packed_lowered s eight_are) in
          let n : whole_of (fours_of (pairs_of (w - 3472328296227680304))) ≡ number 0 (lowered s) =
          ap (λ (x : ℕ). whole_of (fours_of (pairs_of x))) low ∙ joined _ _ _ _ _ _ _ _ (lowered_digits s eight_are) in
          rw n (number_below 0 1 (lowered s) (lowered_digits s eight_are) (omega arith))

-- ---- a field

-- a digit behind a space, in front of further digits
pub lead_one : (b r : ℕ) → 48 < b → b ≤ 57 → r ≡ b - 48 → (s : List ℕ) → spaced (space ∷ b ∷ s) ≡ digits r s
unfolding spaced
lead_one b r low high is s =
    let one : 0 * 10 + (b - 48) ≡ r = omega arith in
    spaced_digit b s (λ q. omega arith) ∙ first_digit_is b s (λ q. omega arith) ∙ digits_more 0 b s (omega arith) (omega arith) ∙ ap (λ (v : ℕ). digits v s) one

-- two digits in front of further ones
pub lead_two : (a b t o : ℕ) → 48 < a → a ≤ 57 → t ≡ a - 48 → 48 ≤ b → b ≤ 57 → o ≡ b - 48 → (s : List ℕ) → spaced (a ∷ b ∷ s) ≡ digits (t * 10 + o) s
lead_two a b t o low high is k j next s =
    let two : (0 * 10 + (a - 48)) * 10 + (b - 48) ≡ t * 10 + o = omega arith in
    spaced_digit a (b ∷ s) (λ q. omega arith)
    ∙ first_digit_is a (b ∷ s) (λ q. omega arith)
    ∙ digits_more 0 a (b ∷ s) (omega arith) (omega arith)
    ∙ digits_more (0 * 10 + (a - 48)) b s (omega arith) (omega arith)
    ∙ ap (λ (v : ℕ). digits v s) two

module _ (l : List ℕ) (h : length l ≡ field_width) where
  -- a field by its bytes
  field_front : l ≡ get_or l 0 0 ∷ get_or l 1 0 ∷ get_or l 2 0 ∷ drop 3 l
  field_front = drop_more l 0 0 (omega arith) ∙ front _ (drop_more l 1 0 (omega arith) ∙ front _ (drop_more l 2 0 (omega arith)))

  field_back : drop 8 l ≡ get_or l 8 0 ∷ get_or l 9 0 ∷ get_or l 10 0 ∷ []
  field_back =
      drop_more l 8 0 (omega arith)
      ∙ front _ (drop_more l 9 0 (omega arith) ∙ front _ (drop_more l 10 0 (omega arith) ∙ front _ (drop_of_length-le l {i = 11} (omega arith))))

  -- one digit behind ten spaces
  pub field_one : ((i : ℕ) → get_or l i 0 < 256) → (f : List ℕ) → f ≡ take 8 l → (w : ℕ) → w ≡ from_le_bytes w64 f → w ≡ 2314885530818453536
      → get_or l 8 0 ≡ space → get_or l 9 0 ≡ space → (r : ℕ) → 48 ≤ get_or l 10 0 → get_or l 10 0 ≤ 57 → r ≡ get_or l 10 0 - 48 → in_range r ≡ field_read l
  unfolding spaced first_digit digits
  field_one byte f part w e eight first second r low high is =
      let b : ℕ = get_or l 10 0 in
      let one : 0 * 10 + (b - 48) ≡ r = omega arith in
      let blank : spaces 8 ≡ take 8 l =
      ap (to_le_bytes w64) (sym eight) ∙ le_bytes_8 (take 8 l) w (length-take-le 8 l (omega arith)) (take_bytes 8 l byte) (e ∙ ap (from_le_bytes w64) part) in
      sym (field_spaced l h
      ∙ ap spaced (sym (take-append-drop 8 l) ∙ ap (λ (t : List ℕ). t ++ drop 8 l) (sym blank))
      ∙ spaced_pass 8 (drop 8 l)
      ∙ ap spaced field_back
      ∙ simp (eq-eqb (get_or l 8 0) space first, eq-eqb (get_or l 9 0) space second)
      (spaced_digit b [] (λ q. omega arith) ∙ digits_more 0 b [] low high ∙ ap in_range one))

  -- eight digits behind a space and the two columns that begin the number
  pub field_long : (high low : ℕ) → get_or l 0 0 ≡ space → ((s : List ℕ) → spaced (get_or l 1 0 ∷ get_or l 2 0 ∷ s) ≡ digits high s) → digits 0 (drop 3 l) ≡ Some low
      → in_range (high * 100000000 + low) ≡ field_read l
  unfolding spaced
  field_long high low e lead eight =
      let long : length (drop 3 l) ≡ 8 = length-drop 3 l ∙ omega arith in
      sym (field_spaced l h
      ∙ ap spaced field_front
      ∙ simp (eq-eqb (get_or l 0 0) space e)
      (lead (drop 3 l)
      ∙ ap (λ (m : ℕ). digits m (drop 3 l)) (sym (add-zero high))
      ∙ digits_after high 0 (drop 3 l) low eight
      ∙ ap (λ (k : ℕ). in_range (high * 10 ^ k + low)) long))
