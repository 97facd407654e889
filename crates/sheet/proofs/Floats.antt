-- The floats of a line are its numbers read as bits.
use Rattle.std.proofs.Common.{ℕ, ◌+◌, ◌-◌, ◌≡◌, List, map, take, drop, sym, ap, ◌∙◌, arith}
use Rattle.std.proofs.lemmas.List.{drop-take}
use Rattle.requests.specs.Kinds.{list_head}

-- the floats of a line of points or zones
pub lent_is :
    {A : Type 0} (f : ℕ → A) (ns : List ℕ) (m end : ℕ) →
    end ≡ list_head + m →
    map f (take (end - list_head) (drop list_head ns)) ≡ map f (drop list_head (take (list_head + m) ns))
lent_is f ns m end e =
    let z : end - list_head ≡ m = omega (arith, e) in
    ap (λ (k : ℕ). map f (take k (drop list_head ns))) z
    ∙ ap (map f) (sym (drop-take list_head m ns))
