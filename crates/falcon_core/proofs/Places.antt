-- What an accepted list of points and a list of zones leave in their arrays, place by place.
use Prim.Native.Nat.{ℕ, zero, suc, ◌-◌, ◌/◌, ◌≤◌, ◌<◌, min}
use native.Mathlib.Nat.{not-suc-le-zero}
use native.Mathlib.Decide.{dec_lt}
use native.Mathlib.Omega.{arith}
use mathlib.Core.Path.{◌≡◌, refl, ◌∙◌}
use mathlib.Core.List.{List, ◌++◌}
use lib.Dec.{T}
use lib.ListN.{length, get_or, replicate, length-append, length-set, length-replicate, get_or-replicate}
use lib.Seq.{get_or-set_same, get_or-set_other}
use lib.Ieee.{Float}
use lib.Ieee.Bits.{is_true}
use Rattle.std.proofs.Common.{append_assoc}
use Rattle.std.proofs.lemmas.List.{set_at}
use Rattle.falcon_state.specs.declared.config.Config.{Config}
use Rattle.falcon_state.specs.declared.point.Point.{Point}
use Rattle.falcon_state.specs.declared.zone.Zone.{Zone}
use Rattle.falcon_state.specs.Point.{max_waypoints, point_numbers_of, origin, nowhere}
use Rattle.falcon_state.specs.Zone.{max_keepout_zones, zone_numbers_of, no_zone, no_place}
use Rattle.falcon_guidance.specs.Lent.{filled_of}
use Rattle.falcon_guidance.specs.Mission.{waypoint_admissible_of, tried_of, all_admissible_of, stored_points_of, loaded_of, loaded_points_of}
use Rattle.falcon_state.specs.Point.{point_at_of}
use Rattle.falcon_state.specs.Zone.{zone_at_of}
use Rattle.falcon_guidance.specs.Zones.{zones_kept_of, stored_zones_of, loaded_zones_of}
use Rattle.falcon_guidance.proofs.Waypoints.{each_good, tried_places}
use Rattle.falcon_core.specs.SoundState.{first_of, Tidy, SoundMission, SoundZones}

-- ---- an array of which the first n places are filled

module _ {A : Type 0} (f : ℕ → A) where
  pub length_first : (n : ℕ) → length (first_of f n) ≡ n
  unfolding first_of
  length_first zero = refl
  length_first (suc n) = simp (length-append, length_first n) (omega arith)

  pub length_filled : (n : ℕ) (l : List A) → length (filled_of f n l) ≡ length l
  unfolding filled_of
  length_filled zero l = refl
  length_filled (suc n) l = length-set (filled_of f n l) n (f n) ∙ length_filled n l

  -- a filled place
  pub filled_at : (d : A) (n : ℕ) (l : List A) (i : ℕ) → n ≤ length l → i < n → get_or (filled_of f n l) i d ≡ f i
  unfolding filled_of
  filled_at d zero l i k h = absurd (not-suc-le-zero h)
  filled_at d (suc n) l i k h =
      elim (dec_lt i n) [
        | yes p ↦ get_or-set_other (filled_of f n l) n i (f n) d (λ e. omega arith) ∙ filled_at d n l i (omega arith) p
        | no q ↦ let e : n ≡ i = omega arith in rw (← e) (get_or-set_same (filled_of f n l) n (f n) d (rw (length_filled n l) k))
      ]

  -- every other place
  pub filled_beyond : (d : A) (n : ℕ) (l : List A) (i : ℕ) → n ≤ i → get_or (filled_of f n l) i d ≡ get_or l i d
  unfolding filled_of
  filled_beyond d zero l i h = refl
  filled_beyond d (suc n) l i h = get_or-set_other (filled_of f n l) n i (f n) d (λ e. omega arith) ∙ filled_beyond d n l i (omega arith)

  -- filling the first places of z's leaves f 0, f 1 and so on in order, then z's
  pub filled_is : (z : A) (size n : ℕ) → n ≤ size → filled_of f n (replicate size z) ≡ first_of f n ++ replicate (size - n) z
  unfolding filled_of first_of
  filled_is z size zero h = let k : size - 0 ≡ size = omega arith in rw k
  filled_is z size (suc n) h =
      let k : size - n ≡ suc (size - suc n) = omega arith in
      rw (filled_is z size n (omega arith), k, append_assoc) (set_at (first_of f n) z (replicate (size - suc n) z) (f n) n (length_first n))

-- what holds of z and of what is read past the end holds at every place of z's
pub replicate_holds : {A : Type 0} (Held : A → Type 0) (d z : A) (size i : ℕ) → Held d → Held z → Held (get_or (replicate size z) i d)
replicate_holds Held d z zero i p q = p
replicate_holds Held d z (suc size) zero p q = q
replicate_holds Held d z (suc size) (suc i) p q = replicate_holds Held d z size i p q

module _ {A : Type 0} (Held : A → Type 0) (d z : A) (size : ℕ) where
  -- filling the first places of z's is tidy
  pub tidy : (f : ℕ → A) (n : ℕ) → n ≤ size → ((i : ℕ) → i < n → Held (f i)) → Tidy Held d z size (filled_of f n (replicate size z)) n
  tidy f n h k =
      let long : length (replicate size z) ≡ size = length-replicate size z in
      record {
        long = length_filled f n (replicate size z) ∙ long;
        few = h;
        beyond = λ i p q. filled_beyond f d n (replicate size z) i p ∙ get_or-replicate size i z d q;
        fit = λ i p. rw (filled_at f d n (replicate size z) i (omega arith) p) (k i p);
      }

  -- no place is in use
  pub untouched : Tidy Held d z size (replicate size z) 0
  unfolding filled_of
  untouched = tidy (λ i. z) 0 (omega arith) (λ i h. absurd (not-suc-le-zero h))

  -- what holds also of all that is filled in holds at every place
  pub filled_holds : (f : ℕ → A) (n i : ℕ) → n ≤ size → Held d → Held z → ((k : ℕ) → Held (f k)) → Held (get_or (filled_of f n (replicate size z)) i d)
  filled_holds f n i h p q k =
      let long : length (replicate size z) ≡ size = length-replicate size z in
      elim (dec_lt i n) [
        | yes b ↦ rw (filled_at f d n (replicate size z) i (omega arith) b) (k i)
        | no b ↦ rw (filled_beyond f d n (replicate size z) i (omega arith)) (replicate_holds Held d z size i p q)
      ]

-- ---- the points of an accepted list

-- the first sixteen lent, in order, then the origin
pub loaded_points_are :
    (l : List Float) →
    loaded_points_of l ≡ first_of (point_at_of l) (min (length l / point_numbers_of) max_waypoints) ++ replicate (max_waypoints - min (length l / point_numbers_of) max_waypoints) origin
unfolding loaded_points_of stored_points_of tried_of
loaded_points_are l = filled_is (point_at_of l) origin max_waypoints _ (tried_places l)

-- its mission is sound
pub sound_loaded : (c : Config) (l : List Float) → T (all_admissible_of c l (tried_of l)) → SoundMission c (loaded_points_of l) (loaded_of l)
unfolding loaded_of loaded_points_of stored_points_of
sound_loaded c l t = record {
  places =
      tidy (λ (p : Point). T (waypoint_admissible_of c p)) nowhere origin max_waypoints (point_at_of l) (tried_of l) (tried_places l)
      (λ i h. rw (each_good c l (tried_of l) i h (is_true _ t)) tt);
  leg = omega arith;
}

-- ---- the zones of a list

pub kept_places : (l : List Float) → zones_kept_of l ≤ max_keepout_zones
unfolding zones_kept_of
kept_places l = omega arith

-- "Zones: the first 8, untested", in order, then none
pub loaded_zones_are :
    (l : List Float) →
    (loaded_zones_of l).zones ≡ first_of (zone_at_of l) (min (length l / zone_numbers_of) max_keepout_zones) ++ replicate (max_keepout_zones - min (length l / zone_numbers_of) max_keepout_zones) no_zone
unfolding loaded_zones_of stored_zones_of zones_kept_of
loaded_zones_are l = filled_is (zone_at_of l) no_zone max_keepout_zones _ (kept_places l)

-- they are sound
pub sound_zones_loaded : (l : List Float) → SoundZones (loaded_zones_of l)
unfolding loaded_zones_of stored_zones_of
sound_zones_loaded l =
    tidy (λ (z : Zone). Unit {0}) no_place no_zone max_keepout_zones (zone_at_of l) (zones_kept_of l) (kept_places l) (λ i h. tt)
