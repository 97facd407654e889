-- U1: "Each total is shown equal to its count over the calls since the opening, up to that limit": the counts.
use Rattle.std.specs.Prelude.{ℕ, suc, min, Bool, cond, not, ◌&&◌, List, [], ◌∷◌, map, eqb}
use Rattle.relay_fsm.specs.declared.Mode.{Mode}
use Rattle.relay_fsm.specs.Mode.{mode_number, is_mode}

-- an accepted tick, report or command: whether it was a tick, and the modes that it began and ended in
pub record Counted : Type 0 where
  pub ticked : Bool
  pub began : Mode
  pub ended : Mode

-- an accepted tick that ended in the mode of this number
abbrev pub ended_in : ℕ → Counted → Bool
ended_in k c = c.ticked && eqb (mode_number c.ended) k

-- it ended in another mode than it began in
abbrev pub changes : Counted → Bool
changes c = not (is_mode c.began c.ended)

-- how many calls are so
unfoldable pub count_of : (Counted → Bool) → List Counted → ℕ
count_of f [] = 0
count_of f (c ∷ l) = cond (f c) (suc (count_of f l)) (count_of f l)

-- U1: "up to that limit", 4294967295
abbrev pub up_to_limit : ℕ → ℕ
up_to_limit n = min 4294967295 n

-- the nine totals as counts: of the ticks that ended in modes 0 to 7, and of the changes
unfoldable pub counts_of : List Counted → List ℕ
counts_of l =
    map (λ (f : Counted → Bool). up_to_limit (count_of f l))
    (ended_in 0 ∷ ended_in 1 ∷ ended_in 2 ∷ ended_in 3 ∷ ended_in 4 ∷ ended_in 5 ∷ ended_in 6 ∷ ended_in 7 ∷ changes ∷ [])
