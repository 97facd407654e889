-- What a line asks is what the numbers ask that are read from its bytes.
use Prim.Native.Nat.{ℕ, ◌+◌, ◌*◌, ◌≤◌, ◌<◌}
use native.Mathlib.Omega.{arith}
use mathlib.Core.Path.{◌≡◌, refl, sym, ap, ◌∙◌, subst}
use mathlib.Core.List.{List}
use lib.ListN.{length, take, replicate, length-take, length-replicate}
use lib.Seq.{take-take, get_or-take}
use Rattle.std.specs.Prelude.{Option, Some, None, Result, Ok, Err}
use Rattle.columns.specs.declared.line.LineError.{LineError}
use Rattle.columns.specs.Field.{field_width, kind_of}
use Rattle.columns.specs.Line.{read_within, line_answer, numbers_over}
use Rattle.relay_math.specs.Small.{number_at}
use Rattle.columns.proofs.LineAgain.{within_cut, line_only, first_number}
use Rattle.columns.proofs.LineOver.{ReadInto, read_into, read_not}
use Rattle.falcon_state.specs.Point.{point_numbers_of}
use Rattle.falcon_state.specs.Zone.{zone_numbers_of}
use Rattle.falcon_core.specs.declared.refusal.Refusal.{Refusal}
use Rattle.falcon_core.specs.declared.refusal.Refusal.TheVariants.{NotALine}
use Rattle.falcon_core.specs.Calls.{plans, points, zones}
use Rattle.requests.specs.declared.kinds.LineCall.{LineCall}
use Rattle.requests.specs.declared.kinds.LineCall.TheVariants.{Flight, Other}
use Rattle.requests.specs.declared.kinds.OtherCall.TheVariants.{Opens, Points, Zones, Totals, Saves}
use Rattle.requests.specs.Kinds.{Asked, list_head, list_fields, numbers_ask, list_numbers, list_floats_of, Asks}
use Rattle.requests.specs.Parse.{read_asks, limit_fields_of, most_fields, line_numbers, line_asks, numbers_after}

-- ---- the limit of a line

-- every kind may have the most fields that any kind may have
pub limit_is : (k : Option ℕ) → limit_fields_of k ≡ most_fields
unfolding limit_fields_of
limit_is (Some n) = refl
limit_is None = refl

line_numbers_is : (line : List ℕ) → read_within most_fields line ≡ line_numbers line
unfolding line_numbers
line_numbers_is line = ap (λ (n : ℕ). read_within n line) (sym (limit_is (kind_of line)))

-- a line over every kind's limit says the same without the bytes behind it
pub line_numbers_cut : (line : List ℕ) → field_width * most_fields < length line → line_numbers line ≡ line_numbers (take (field_width * most_fields + 1) line)
line_numbers_cut line h =
    let cut : List ℕ = take (field_width * most_fields + 1) line in
    sym (line_numbers_is line) ∙ within_cut most_fields most_fields line (omega arith) h ∙ line_numbers_is cut

-- a line that is read has its first number as its kind
pub line_numbers_kind : (line ns : List ℕ) → line_numbers line ≡ Some ns → kind_of line ≡ Some (number_at ns 0)
unfolding line_numbers
line_numbers_kind line ns h = first_number (limit_fields_of (kind_of line)) line ns h

-- the line reader's array and answer, with an array that has a place for each number of any line
module _ (line a : List ℕ) (room : most_fields ≤ length a) where
  pub numbers_after_is : (b : List ℕ) → b ≡ numbers_over most_fields line a → b ≡ numbers_after line a
  unfolding numbers_after
  numbers_after_is b e = e ∙ ap (λ (n : ℕ). numbers_over n line a) (sym (limit_is (kind_of line)))

  module _ (r : Result ℕ LineError) (e : r ≡ line_answer most_fields line (length a)) where
    -- a line that was not read
    pub line_asks_broken : ((n : ℕ) → r ≡ Ok n → ⊥) → Err NotALine ≡ line_asks line
    unfolding line_asks
    line_asks_broken none =
        ap read_asks (sym (read_not most_fields line (length a) room (λ n k. none n (e ∙ k))) ∙ line_numbers_is line)

    -- the numbers of a line that was read
    module _ (b : List ℕ) (n : ℕ) (o : b ≡ numbers_over most_fields line a) (k : r ≡ Ok n) where
      pub numbers_read : ReadInto most_fields line b n
      numbers_read = subst (λ (x : List ℕ). ReadInto most_fields line x n) (sym o) (read_into most_fields line a n room (sym e ∙ k))

      pub numbers_read_some : 0 < length (take n b)
      numbers_read_some = (line_only most_fields line (take n b) numbers_read.is).some

      pub line_asks_read : numbers_ask (take n b) ≡ line_asks line
      unfolding line_asks
      line_asks_read = ap read_asks (sym numbers_read.is ∙ line_numbers_is line)

-- no more numbers are read than a line may have
pub read_most : (line : List ℕ) (places n : ℕ) → most_fields ≤ places → Ok n ≡ line_answer most_fields line places → n ≤ most_fields
read_most line places n room k =
    let a = replicate places 0 in
    let long : length a ≡ places = length-replicate places 0 in
    let at : Ok n ≡ line_answer most_fields line (length a) = rw long k in
    let into = numbers_read line a (omega (arith, long)) (Ok n) at (numbers_over most_fields line a) n refl refl in
    let some = line_only most_fields line (take n (numbers_over most_fields line a)) into.is in
    omega (arith, into.count, some.most)

-- a list among the first numbers of an array is among all of them
module _ (width n : ℕ) (a : List ℕ) (h : list_fields width (take n a) ≤ length (take n a)) where
  same_count : number_at (take n a) 1 ≡ number_at a 1
  same_count = get_or-take n a 1 0 (omega (arith, length-take n a))

  list_among : list_fields width a ≤ length a
  list_among = subst (λ (m : ℕ). list_head + width * m ≤ length a) same_count (omega (arith, length-take n a))

  same_list : list_numbers width (take n a) ≡ list_numbers width a
  same_list =
      take-take (list_fields width (take n a)) n a (omega (arith, length-take n a))
      ∙ ap (λ (m : ℕ). take (list_head + width * m) a) same_count

-- what is asked with the first numbers of an array is asked with all of them
pub asks_among : (answer : Result LineCall Refusal) (a : List ℕ) (n : ℕ) (asked : Asked) → Asks answer (take n a) asked → Asks answer a asked
asks_among (Err e) a n asked h = h
asks_among (Ok (Flight call)) a n asked h = h
asks_among (Ok (Other (Opens o))) a n asked h = h
asks_among (Ok (Other Points)) a n asked (e, h) = (sym (ap (λ (l : List ℕ). Ok (plans (points (list_floats_of l)))) (same_list point_numbers_of n a h)) ∙ e, list_among point_numbers_of n a h)
asks_among (Ok (Other Zones)) a n asked (e, h) = (sym (ap (λ (l : List ℕ). Ok (plans (zones (list_floats_of l)))) (same_list zone_numbers_of n a h)) ∙ e, list_among zone_numbers_of n a h)
asks_among (Ok (Other Totals)) a n asked h = h
asks_among (Ok (Other Saves)) a n asked h = h
