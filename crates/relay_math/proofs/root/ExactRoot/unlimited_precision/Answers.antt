-- `unlimited_precision`: the pattern's digits with an even exponent, and their whole root.
use Prim.Native.Nat.{◌*◌, ◌%◌, ◌^◌}
use mathlib.Core.Path.{sym, subst}
use mathlib.Core.Bool.{false}
use lib.Dec.{T}
use lib.Ieee.{binary32, fits}
use lib.Ieee.Bits.{of_bits-to_bits}
use lib.Ieee.Exact.{HasValue}
use Rattle.relay_math.proofs.Patterns.{Even, evened, above_number, above_bits}
use Rattle.relay_math.proofs.Scale.{exact_same}
use Rattle.relay_math.proofs.root.ExactRoot.unlimited_precision.Goals.{Start}
use Rattle.relay_math.proofs.root.ExactRoot.unlimited_precision.Goals.{After-radicand_of-s}
use Rattle.relay_math.proofs.root.ExactRoot.unlimited_precision.Goals as goal

held : (c : Start) → T (fits binary32 c.args.x)
held c = subst T (sym c.well_formed.0.1) tt

pub float_to_bits-x : goal.float_to_bits-x
float_to_bits-x c = rw (above_number c.args.x c.requires) tt

pub radicand_of-s-requires : goal.radicand_of-s-requires
radicand_of-s-requires c = above_bits c.args.x (held (goal.at.radicand_of-s-requires c).Start) c.requires

-- the exponent made even
even : (c : After-radicand_of-s) → Even c.radicand_of-s.result.m c.radicand_of-s.result.c (c.radicand_of-s.result.c % 2)
even c = let e = c.radicand_of-s.ensures in evened c.radicand_of-s.result.m c.radicand_of-s.result.c e.0 e.1 e.2 e.3

pub returns : goal.returns
returns c = let x = c.args.x in
    let e = even (goal.at.returns c).After-radicand_of-s in
    let v = c.radicand_of-s.ensures.4 in
    let own : HasValue x false (c.radicand_of-s.result.m * 2 ^ c.radicand_of-s.result.c) (4 ^ 173) = rw (of_bits-to_bits binary32 x (held (goal.at.returns c).Start)) at v in
    exact_same x false _ 173 (rw e.4 own)
