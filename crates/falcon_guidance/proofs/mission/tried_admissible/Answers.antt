-- Each point tried is read of its own chunk.
use Rattle.std.proofs.Common.{rules, ◌≡◌, ◌∙◌, ap, sym, refl, ℕ, zero, suc, ◌+◌, ◌*◌, ◌/◌, ◌<◌, min, length, get_or, take, drop, List, [], Bool, IsTrue, ◌↔◌, arith}
use Rattle.std.specs.Prelude.{Float}
use Rattle.std.specs.Cmp.{both_ways}
use Rattle.std.proofs.lemmas.List.{drop-drop, get_or-take, length-take}
use native.Mathlib.Nat.{not-suc-le-zero}
use Rattle.std.specs.Simd.{first_chunks}
use Rattle.falcon_state.specs.declared.config.Config.{Config}
use Rattle.falcon_state.specs.Point.{point_numbers_of, max_waypoints}
use Rattle.falcon_state.proofs.Chunks.{point_chunk}
use Rattle.falcon_guidance.specs.Mission.{waypoint_admissible_of, all_admissible_of, tried_of}
use Rattle.falcon_state.specs.Point.{point_at_of}
use Rattle.falcon_guidance.proofs.Waypoints.{all_good, each_good}
use Rattle.falcon_guidance.proofs.mission.tried_admissible.Goals as goal

length_chunks : (n k : ℕ) (l : List Float) → length (first_chunks n k l) ≡ k
length_chunks n zero l = refl
length_chunks n (suc k) l = rw (length_chunks n k (drop n l)) refl

chunk_at : (n k i : ℕ) (l : List Float) → i < k → get_or (first_chunks n k l) i [] ≡ take n (drop (i * n) l)
chunk_at n zero i l h = absurd (not-suc-le-zero h)
chunk_at n (suc k) zero l h = let e : 0 * n ≡ 0 = omega arith in rw e refl
chunk_at n (suc k) (suc i) l h =
    let e : n + i * n ≡ suc i * n = omega arith in
    chunk_at n k i (drop n l) (omega arith) ∙ ap (λ (m : List Float). take n m) (drop-drop (i * n) n l ∙ ap (λ (m : ℕ). drop m l) e)

-- the chunks tried are all of admissible points: the points tried are
joined :
    (c : Config) (l : List Float) (b : Bool) (n : ℕ) (ps : List (List Float)) →
    ps ≡ first_chunks point_numbers_of (length l / point_numbers_of) l →
    n ≡ min (length ps) max_waypoints →
    IsTrue b ↔ ((k : ℕ) → k < length (take n ps) → IsTrue (waypoint_admissible_of c (point_at_of (get_or (take n ps) k []) 0))) →
    b ≡ all_admissible_of c l (tried_of l)
unfolding tried_of
joined c l b n ps e f h =
    let m = length l / point_numbers_of in
    let few : length ps ≡ m = rw e (length_chunks point_numbers_of m l) in
    let g : n ≡ min m max_waypoints = omega arith in
    let of : (k : ℕ) → k < n → point_at_of (get_or (take n ps) k []) 0 ≡ point_at_of l k =
    λ k p. ap (λ x. point_at_of x 0) (get_or-take n ps k [] p ∙ rw e (chunk_at point_numbers_of m k l (omega arith))) ∙ point_chunk l k in
    rw (← g)
    (both_ways b (all_admissible_of c l n)
    (λ t. all_good c l n (λ k p. sym (ap (waypoint_admissible_of c) (of k p)) ∙ h.0 t k (omega (arith, length-take n ps))))
    (λ t. h.1 (λ k p. let q : k < n = omega (arith, length-take n ps) in ap (waypoint_admissible_of c) (of k q) ∙ each_good c l n k q t)))

pub returns : goal.returns
returns c =
    let n = c.min-tried.result in
    let ps = c.as_chunks.result.0.now in
    let each : IsTrue c.all.result ↔ ((k : ℕ) → k < length (take n ps) → IsTrue (waypoint_admissible_of c.args.c (point_at_of (get_or (take n ps) k []) 0))) = search rules in
    joined c.args.c c.args.lent.now c.all.result n ps c.as_chunks.ensures.front c.min-tried.ensures each
