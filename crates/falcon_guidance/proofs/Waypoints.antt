-- A list is admissible where each point is, and each point where the list is; the points tried have places; within a list what is read past its end counts
-- for nothing.
use Rattle.std.proofs.Common.{◌≡◌, ℕ, zero, suc, ◌<◌, ◌≤◌, List, length, get_or, true, refl, arith}
use Rattle.std.specs.Prelude.{Float}
use Rattle.std.proofs.lemmas.Bool.{and_from, and_parts}
use Rattle.std.proofs.lemmas.List.{get_or_default}
use native.Mathlib.Nat.{not-suc-le-zero}
use native.Mathlib.Decide.{dec_lt}
use Rattle.falcon_state.specs.declared.point.Point.{Point}
use Rattle.falcon_state.specs.declared.config.Config.{Config}
use Rattle.falcon_guidance.specs.Mission.{waypoint_admissible_of, tried_of, all_admissible_of, waypoint_at_of}
use Rattle.falcon_state.specs.Point.{point_at_of}
use Rattle.falcon_state.specs.Point.{max_waypoints, origin, nowhere}

module _ (c : Config) (l : List Float) where
  -- the first n points are all admissible where each is, and each is where all are
  pub all_good : (n : ℕ) → ((i : ℕ) → i < n → waypoint_admissible_of c (point_at_of l i) ≡ true) → all_admissible_of c l n ≡ true
  unfolding all_admissible_of
  all_good zero h = refl
  all_good (suc n) h = and_from _ _ (all_good n (λ i k. h i (omega arith))) (h n (omega arith))

  pub each_good : (n i : ℕ) → i < n → all_admissible_of c l n ≡ true → waypoint_admissible_of c (point_at_of l i) ≡ true
  unfolding all_admissible_of
  each_good zero i h e = absurd (not-suc-le-zero h)
  each_good (suc n) i h e =
      let both = and_parts _ _ e in
      elim (dec_lt i n) [
        | yes p ↦ each_good n i p both.0
        | no q ↦ let m : i ≡ n = omega arith in rw m both.1
      ]

-- the points tried have places
pub tried_places : (l : List Float) → tried_of l ≤ max_waypoints
unfolding tried_of
tried_places l = omega arith

-- within a list it does not matter what is read past its end
pub waypoint_within : (ps : List Point) (i : ℕ) → i < length ps → get_or ps i nowhere ≡ waypoint_at_of ps i
unfolding waypoint_at_of
waypoint_within ps i h = get_or_default ps i nowhere origin h
