-- The places that are filled with the items of a lent list.
use Rattle.std.specs.Prelude.{ℕ, zero, suc, List, set}

-- a list with f 0, f 1 and so on in its first n places
unfoldable pub filled_of : {A : Type 0} → (ℕ → A) → ℕ → List A → List A
filled_of f zero l = l
filled_of f (suc n) l = set (filled_of f n l) n (f n)
