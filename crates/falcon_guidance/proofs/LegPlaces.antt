-- Of the whole list a tick reads the points in two places, and they are the waypoints of the active leg and of the next.
use Prim.Native.Nat.{ℕ, ◌≤◌, ◌<◌}
use native.Mathlib.Omega.{arith}
use native.Mathlib.Decide.{dec_lt}
use mathlib.Core.Path.{◌≡◌, refl, sym}
use mathlib.Core.List.{List}
use lib.Dec.{lit≤}
use lib.ListN.{length, get_or, get_or-eq_default}
use borrow.Author.Tests.{lt-ltb, le-ltb}
use Rattle.falcon_state.specs.declared.point.Point.{Point}
use Rattle.falcon_state.specs.declared.config.Config.{Config}
use Rattle.falcon_state.specs.declared.mission.Mission.{Mission}
use Rattle.falcon_state.specs.declared.mission.Legs.{Legs}
use Rattle.falcon_state.specs.Point.{max_waypoints, origin, nowhere}
use Rattle.falcon_guidance.specs.Mission.{waypoint_at_of, leg_waypoint_of, current_waypoint_of, legs_of}
use Rattle.falcon_guidance.proofs.Waypoints.{waypoint_within}
use Rattle.falcon_guidance.specs.Legs.{here_leg_of, next_leg_of, place_of, waypoint_in_place, legs_from_of}

-- a leg has a place
pub place_below : (leg : ℕ) → place_of leg < max_waypoints
unfolding place_of
place_below leg =
    elim (dec_lt leg max_waypoints) [
      | yes h ↦ rw (lt-ltb leg max_waypoints h) h
      | no q ↦ rw (le-ltb leg max_waypoints (omega arith)) (lit≤ tt)
    ]

beyond : (ps : List Point) (leg : ℕ) → length ps ≤ leg → origin ≡ waypoint_at_of ps leg
unfolding waypoint_at_of
beyond ps leg h = sym (get_or-eq_default ps origin h)

module _ (ps : List Point) (long : length ps ≡ max_waypoints) where
  waypoint_in_place_is : (leg : ℕ) → waypoint_in_place leg (get_or ps (place_of leg) nowhere) ≡ waypoint_at_of ps leg
  unfolding place_of waypoint_in_place
  waypoint_in_place_is leg =
      elim (dec_lt leg max_waypoints) [
        | yes h ↦ rw (lt-ltb leg max_waypoints h) (waypoint_within ps leg (omega arith))
        | no q ↦ rw (le-ltb leg max_waypoints (omega arith)) (beyond ps leg (omega arith))
      ]

  legs_in_places : (c : Config) (m : Mission) → legs_from_of c m (get_or ps (place_of (here_leg_of m)) nowhere) (get_or ps (place_of (next_leg_of m)) nowhere) ≡ legs_of c ps m
  unfolding legs_from_of legs_of current_waypoint_of leg_waypoint_of
  legs_in_places c m = rw (waypoint_in_place_is (here_leg_of m), waypoint_in_place_is (next_leg_of m)) refl

  -- what these two places hold is all that a tick reads of the list
  pub legs_are :
      (c : Config) (m : Mission) (i j : ℕ) (l : Legs) →
      i ≡ place_of (here_leg_of m) →
      j ≡ place_of (next_leg_of m) →
      l ≡ legs_from_of c m (get_or ps i nowhere) (get_or ps j nowhere) →
      l ≡ legs_of c ps m
  legs_are c m i j l here next e = rw (e, here, next) (legs_in_places c m)
