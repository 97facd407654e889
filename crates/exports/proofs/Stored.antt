-- The four parts of a battery's numbers, stored one behind the other, are the whole.
use Rattle.std.proofs.Common.{◌≡◌, ℕ, ◌≤◌, List, ◌++◌, length, drop, sym, ◌∙◌, ap}
use Rattle.std.proofs.lemmas.List.Edits.{sets, sets-eq}
use borrow.Rule.Slice.PartMut.{put_mid}
use Rattle.std.proofs.lemmas.List.{drop-drop}
use Rattle.relay_batt.specs.declared.battery.Battery.{Battery}
use Rattle.relay_batt.specs.Numbers.{estimator_numbers_of, state_numbers_of, silence_numbers_of, battery_numbers_of}
use Rattle.exports.specs.Batt.{size, pack_numbers_of, numbers_with_pack}

pub parts_whole : (l : List ℕ) (b : Battery) → size ≤ length l
    → put_mid 26 3 (put_mid 17 9 (put_mid 8 9 (pack_numbers_of b.est.cfg ++ drop 8 l) (estimator_numbers_of b.est)) (state_numbers_of b.state)) (silence_numbers_of b)
    ≡ sets l 0 (numbers_with_pack b)
unfolding numbers_with_pack battery_numbers_of pack_numbers_of estimator_numbers_of state_numbers_of silence_numbers_of
parts_whole l b h =
    let e : drop 3 (drop 9 (drop 9 (drop 8 l))) ≡ drop 29 l = simp drop-drop in
    ap (λ (r : List ℕ). numbers_with_pack b ++ r) e ∙ sym (sets-eq (numbers_with_pack b) l 0 h)
