-- Setting a check changes its passed bit and no other, the first blocker fails and none before it does, and the count of outstanding checks is that of the checks that fail.
use mathlib.Core.Path.{◌≡◌, refl, sym, ap, ap₂, ◌∙◌}
use mathlib.Core.Bool.{Bool, true, false, cond, ◌||◌}
use mathlib.Core.List.{List, [], ◌∷◌, ◌++◌}
use mathlib.Core.Logic.{◌↔◌}
use Prim.Native.Nat.{ℕ, zero, suc, ◌+◌, ◌*◌, ◌/◌, ◌%◌, ◌^◌, ◌≤◌, ◌<◌}
use native.Mathlib.Nat.{lt_of_le_of_lt, mod-lt, pow-suc}
use native.Mathlib.Omega.{arith}
use Rattle.std.proofs.lemmas.List.Sums.{sum_by-cons}
use Rattle.std.proofs.lemmas.Bool.Decides.{nat_tests}
use lib.Dec.{eqb, ltb, lit<, lit≤}
use lib.Count.{ones, ones_step}
use lib.Bits.{and_le_l}
use Rattle.relay_preflight.specs.Check.{check_count, check_number, all_checks}
use Rattle.relay_preflight.specs.Table.{mask_limit, bit_of, set_of, legacy_passed_of, passed_of, fails_of, failing_mask_of, outstanding_of}
use Rattle.relay_preflight.specs.Verdict.{first_blocker_of, no_blocker, blocker_number}
use Rattle.relay_preflight.specs.declared.CheckId.{CheckId}
use Rattle.relay_preflight.specs.declared.CheckTable.{CheckTable}
use Rattle.std.specs.Prelude.{Option, Some, None, find, count_by}
use Rattle.std.specs.List.{list_any}
use Rattle.relay_preflight.proofs.Bits.{bit_of_lowest, bit_of_suc, bit_of_zero, bit_of_and, bit_of_not, bit_of_with, with_lt}
use Rattle.relay_preflight.proofs.Checks.{number_lt, number_in, none_found}

-- ---- setting a check

-- what is required stays
pub set_required : (t : CheckTable) (id : CheckId) (b : Bool) → (set_of t id b).required ≡ t.required
unfolding set_of
set_required t id b = refl

-- of the passed mask, the check's bit becomes b, and every other bit stays
pub set_bit : (t : CheckTable) (id : CheckId) (b : Bool) (k : ℕ) → k < 32
    → bit_of (set_of t id b).passed k ≡ cond (eqb (check_number id) k) b (bit_of t.passed k)
unfolding set_of
set_bit t id b k h = bit_of_with t.passed (check_number id) k b (number_in 32 (lit≤ tt) id) h

-- a passed mask of w bits, at least one for each check, stays one: of 21 bits, below `mask_limit`, and of 32
pub set_lt : (w : ℕ) → check_count ≤ w → (t : CheckTable) (id : CheckId) (b : Bool) → t.passed < 2 ^ w → (set_of t id b).passed < 2 ^ w
unfolding set_of
set_lt w l t id b h = with_lt w t.passed (check_number id) b h (number_in w l id)

-- ---- checks 0..5 set passed

-- what is required stays
pub legacy_required : (t : CheckTable) → (legacy_passed_of t).required ≡ t.required
unfolding legacy_passed_of
legacy_required t = simp set_required

below_six : (n : ℕ) (x : Bool)
    → cond (eqb 5 n) true (cond (eqb 4 n) true (cond (eqb 3 n) true (cond (eqb 2 n) true (cond (eqb 1 n) true (cond (eqb 0 n) true x)))))
    ≡ (ltb n 6 || x)
below_six n x = grind (arith, nat_tests)

-- checks 0..5 have passed, and every other stays
pub legacy_passes : (t : CheckTable) (id : CheckId) → passed_of (legacy_passed_of t) id ≡ (ltb (check_number id) 6 || passed_of t id)
unfolding legacy_passed_of
legacy_passes t id =
    let k : check_number id < 32 = number_in 32 (lit≤ tt) id in
    simp set_bit (below_six (check_number id) (passed_of t id))

-- a passed mask of w bits stays one
pub legacy_lt : (w : ℕ) → check_count ≤ w → (t : CheckTable) → t.passed < 2 ^ w → (legacy_passed_of t).passed < 2 ^ w
unfolding legacy_passed_of
legacy_lt w l t h =
    set_lt w l _ _ true (set_lt w l _ _ true (set_lt w l _ _ true (set_lt w l _ _ true (set_lt w l _ _ true (set_lt w l t _ true h)))))

-- ---- the first blocker

-- `id` is the first check of a list that fails
pub record FirstFailing (t : CheckTable) (id : CheckId) (l : List CheckId) : Type 0 where
  pub before : List CheckId
  pub after : List CheckId
  pub place : l ≡ before ++ id ∷ after
  pub fails : fails_of t id ≡ true
  pub others : list_any (fails_of t) before ≡ false

skip : (t : CheckTable) (id : CheckId) (before after : List CheckId) → fails_of t id ≡ true → list_any (fails_of t) before ≡ false
    → find (fails_of t) (before ++ id ∷ after) ≡ Some id
skip t id [] after f h = simp f
skip t id (x ∷ xs) after f h = go (fails_of t x) h (skip t id xs after f)
  where
    go : (b : Bool) → (b || list_any (fails_of t) xs) ≡ false → (list_any (fails_of t) xs ≡ false → find (fails_of t) (xs ++ id ∷ after) ≡ Some id)
        → cond b (Some x) (find (fails_of t) (xs ++ id ∷ after)) ≡ Some id
    go true h rest = cc
    go false h rest = rest h

found : (t : CheckTable) (id : CheckId) (l : List CheckId) → find (fails_of t) l ≡ Some id → FirstFailing t id l
found t id [] e = cc
found t id (x ∷ xs) e = go (fails_of t x) refl e (found t id xs)
  where
    go : (b : Bool) → fails_of t x ≡ b → cond b (Some x) (find (fails_of t) xs) ≡ Some id
        → (find (fails_of t) xs ≡ Some id → FirstFailing t id xs) → FirstFailing t id (x ∷ xs)
    go true f e rest =
        let q : x ≡ id = cc in
        record { before = []; after = xs; place = ap (λ (y : CheckId). y ∷ xs) q; fails = simp q at f; others = refl }
    go false f e rest =
        let r : FirstFailing t id xs = rest e in
        record { before = x ∷ r.before; after = r.after; place = ap (λ (l : List CheckId). x ∷ l) r.place; fails = r.fails; others = simp f r.others }

-- a check blocks exactly where it fails and every check before it in `all_checks` does not
pub blocked_iff : (t : CheckTable) (id : CheckId) → (first_blocker_of t ≡ Some id) ↔ FirstFailing t id all_checks
unfolding first_blocker_of
blocked_iff t id =
    (λ e. found t id all_checks e, λ r. ap (find (fails_of t)) r.place ∙ skip t id r.before r.after r.fails r.others)

-- the blocker's number is 21 exactly where no check blocks
pub no_blocker_iff : (v : Option CheckId) → (blocker_number v ≡ no_blocker) ↔ (v ≡ None)
no_blocker_iff None = (λ e. refl, λ e. refl)
no_blocker_iff (Some id) = (λ e. absurd (omega (arith, number_lt id)), λ e. cc)

-- ---- the count of outstanding checks

-- a check fails exactly where its bit of the failing mask is set
pub fails_bit : (t : CheckTable) → t.passed < 2 ^ 32 → (id : CheckId) → fails_of t id ≡ bit_of (failing_mask_of t) (check_number id)
unfolding fails_of failing_mask_of
fails_bit t h id = simp (bit_of_and, bit_of_not t.passed (check_number id) h (number_in 32 (lit≤ tt) id))

-- where no bit of the failing mask is set no check blocks
pub mask_allows : (t : CheckTable) → t.passed < 2 ^ 32 → failing_mask_of t ≡ 0 → first_blocker_of t ≡ None
unfolding first_blocker_of
mask_allows t h e = none_found (fails_of t) (λ id. fails_bit t h id ∙ ap (λ (m : ℕ). bit_of m (check_number id)) e ∙ bit_of_zero (check_number id)) all_checks

abbrev sum_below : (ℕ → ℕ) → ℕ → ℕ
sum_below g zero = 0
sum_below g (suc d) = g 0 + sum_below (λ k. g (suc k)) d

digit : (x : ℕ) → x < 2 → cond (eqb x 1) 1 0 ≡ x
digit x h = grind (arith, nat_tests)

ones_bits : (d m : ℕ) → m < 2 ^ d → ones m ≡ sum_below (λ k. cond (bit_of m k) 1 0) d
unfolding ones
ones_bits zero m h = let e : m ≡ 0 = omega arith in simp e
ones_bits (suc d) m h =
    let p : 2 ^ suc d ≡ 2 ^ d * 2 = pow-suc 2 d in
    ones_step m ∙ simp (bit_of_lowest, bit_of_suc, ones_bits d (m / 2) (omega arith), digit (m % 2) (mod-lt m (lit< tt)))

-- the numbers in the order of `all_checks` are 0..20 in another order
in_order : (f : ℕ → Bool) → sum_below (λ k. cond (f k) 1 0) check_count ≡ count_by (λ id. f (check_number id)) all_checks
unfolding all_checks
in_order f = omega arith

count_more : (f : CheckId → Bool) (x : CheckId) (xs : List CheckId) → count_by f (x ∷ xs) ≡ cond (f x) 1 0 + count_by f xs
count_more f x xs = sum_by-cons (λ y. cond (f y) 1 0) x xs

count_same : (f g : CheckId → Bool) → ((id : CheckId) → f id ≡ g id) → (l : List CheckId) → count_by f l ≡ count_by g l
count_same f g e [] = refl
count_same f g e (x ∷ xs) = count_more f x xs ∙ ap₂ (λ (b : Bool) (n : ℕ). cond b 1 0 + n) (e x) (count_same f g e xs) ∙ sym (count_more g x xs)

-- the ones of required and not passed are as many as the checks that fail
pub outstanding_count : (t : CheckTable) → t.required < mask_limit → t.passed < 2 ^ 32 → outstanding_of t ≡ count_by (fails_of t) all_checks
unfolding outstanding_of failing_mask_of
outstanding_count t h l =
    ones_bits check_count (failing_mask_of t) (lt_of_le_of_lt (and_le_l t.required _) h)
    ∙ in_order (bit_of (failing_mask_of t))
    ∙ sym (count_same (fails_of t) (λ id. bit_of (failing_mask_of t) (check_number id)) (fails_bit t l) all_checks)

count_zero : (f : CheckId → Bool) (l : List CheckId) → (count_by f l ≡ 0) ↔ (find f l ≡ None)
count_zero f [] = (λ e. refl, λ h. refl)
count_zero f (x ∷ xs) = go (f x) (count_more f x xs) (count_zero f xs)
  where
    go : (b : Bool) → count_by f (x ∷ xs) ≡ cond b 1 0 + count_by f xs → (count_by f xs ≡ 0) ↔ (find f xs ≡ None)
        → (count_by f (x ∷ xs) ≡ 0) ↔ (cond b (Some x) (find f xs) ≡ None)
    go true m h = (λ e. absurd (omega arith), λ e. cc)
    go false m h = (λ e. h.0 (omega arith), λ e. let z = h.1 e in omega arith)

-- no check is outstanding exactly where none blocks
pub outstanding_zero : (t : CheckTable) → t.required < mask_limit → t.passed < 2 ^ 32 → (outstanding_of t ≡ 0) ↔ (first_blocker_of t ≡ None)
unfolding first_blocker_of
outstanding_zero t h l = rw (outstanding_count t h l) (count_zero (fails_of t) all_checks)
