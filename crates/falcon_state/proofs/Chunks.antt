-- Point or zone i of a list of floats is read of its own floats alone.
use Rattle.std.specs.Prelude.{◌≡◌, ℕ, ◌+◌, ◌*◌, ◌<◌, List, take, drop, get_or, Float}
use Rattle.std.specs.Float.{nan}
use Rattle.std.proofs.Common.{lit<, ◌∙◌, ap, add-zero, mul_comm}
use Rattle.std.proofs.lemmas.List.{get_or-drop, get_or-take}
use Rattle.falcon_state.specs.Point.{point_numbers_of, point_at_of}
use Rattle.falcon_state.specs.Zone.{zone_numbers_of, zone_at_of}

module _ (l : List Float) (n i : ℕ) where
  -- a number of chunk i, of n, in the list
  first : 0 < n → get_or (take n (drop (i * n) l)) 0 nan ≡ get_or l (n * i) nan
  first h = get_or-take n (drop (i * n) l) 0 nan h ∙ get_or-drop (i * n) l 0 nan ∙ ap (λ (m : ℕ). get_or l m nan) (add-zero (i * n) ∙ mul_comm i n)

  later : (j : ℕ) → j < n → get_or (take n (drop (i * n) l)) j nan ≡ get_or l (n * i + j) nan
  later j h = get_or-take n (drop (i * n) l) j nan h ∙ get_or-drop (i * n) l j nan ∙ ap (λ (m : ℕ). get_or l (m + j) nan) (mul_comm i n)

pub point_chunk : (l : List Float) (i : ℕ) → point_at_of (take point_numbers_of (drop (i * point_numbers_of) l)) 0 ≡ point_at_of l i
unfolding point_at_of
point_chunk l i =
    λ t.
    record {
      x = first l point_numbers_of i (lit< tt) t;
      y = later l point_numbers_of i 1 (lit< tt) t;
      z = later l point_numbers_of i 2 (lit< tt) t;
    }

pub zone_chunk : (l : List Float) (i : ℕ) → zone_at_of (take zone_numbers_of (drop (i * zone_numbers_of) l)) 0 ≡ zone_at_of l i
unfolding zone_at_of
zone_chunk l i =
    λ t.
    record {
      center = record {
        x = first l zone_numbers_of i (lit< tt) t;
        y = later l zone_numbers_of i 1 (lit< tt) t;
        z = later l zone_numbers_of i 2 (lit< tt) t;
      };
      radius = later l zone_numbers_of i 3 (lit< tt) t;
    }
