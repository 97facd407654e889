use native.Mathlib.Omega.{arith}
use mathlib.Core.Path.{refl}
use Prim.Native.Nat.{ℕ}
use Rattle.std.proofs.lemmas.List.{length-replicate}
use Rattle.columns.proofs.Writing.{put_three}
use Rattle.falcon_record.proofs.joined.Goals as goal

pub returns : goal.returns
returns g c = put_three _ _ _ _ _ _ _ _ _ _ _ _ refl refl refl refl refl (omega (arith, length-replicate {A = ℕ} g.row.N 0)) c.put_numbers.ensures c.put_numbers-2.ensures c.put_numbers-3.ensures
