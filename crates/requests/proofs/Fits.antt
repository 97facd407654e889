-- What a line asks has f32 values alone, since its floats are "their bits as a number".
use Prim.Native.Nat.{ℕ, zero, suc}
use mathlib.Core.List.{List, [], ◌∷◌, map}
use lib.Dec.{eqb, ltb}
use lib.ListN.{length, get_or, drop}
use lib.Ieee.{nan, binary32, of_bits}
use lib.Ieee.Bits.{of_bits-fits}
use lib.Ieee.Fits.{nan-fits}
use Rattle.std.specs.Prelude.{Option, Some, None, Ok, Err}
use Rattle.std.proofs.lemmas.Bool.{cond_both}
use Rattle.relay_batt.specs.Fits.{Fit, FitReading}
use Rattle.falcon_core.specs.SoundState.{FitPoint, FitOpening, FitTick, FitRequest}
use Rattle.falcon_state.specs.declared.config.OpeningKind.{OpeningKind}
use Rattle.relay_math.specs.Small.{number_at}
use Rattle.falcon_record.specs.From.{point_from_of}
use Rattle.requests.specs.Kinds.{Asked, list_head, opening_from_of, reading_from_of, tick_from_of, numbers_ask}
use Rattle.requests.specs.Parse.{read_asks, line_numbers, line_asks}
use Rattle.requests.specs.ByLine.{need_of, buffered_line_asks}
use Rattle.requests.proofs.ByKind.{numbers_ask_keeps}

-- the floats of what is asked are f32 values
abbrev pub FitAsked : Asked → Type 0
FitAsked (Err e) = Unit {0}
FitAsked (Ok r) = FitRequest r

bits_fit : (n : ℕ) → Fit (of_bits binary32 n)
bits_fit n = of_bits-fits binary32 n

point_fits : (ns : List ℕ) (k : ℕ) → FitPoint (point_from_of ns k)
point_fits ns k = record { x = bits_fit _; y = bits_fit _; z = bits_fit _ }

opening_fits : (ns : List ℕ) (kind : OpeningKind) → FitOpening (opening_from_of kind ns)
unfolding opening_from_of
opening_fits ns kind = record { home = point_fits ns 1; fence = bits_fit _; cruise = bits_fit _; volts = bits_fit _ }

reading_fits : (ns : List ℕ) → FitReading (reading_from_of ns)
unfolding reading_from_of
reading_fits ns =
    cond_both (eqb (number_at ns 15) 0) _ _ FitReading (λ e. tt) (λ e. cond_both (eqb (number_at ns 15) 1) _ _ FitReading (λ e. bits_fit _) (λ e. (bits_fit _, bits_fit _)))

tick_fits : (ns : List ℕ) → FitTick (tick_from_of ns)
unfolding tick_from_of
tick_fits ns = record { p = point_fits ns 2; reading = reading_fits ns }

floats_fit : (ns : List ℕ) (i : ℕ) → Fit (get_or (map (of_bits binary32) ns) i nan)
floats_fit [] i = nan-fits binary32
floats_fit (n ∷ ns) zero = bits_fit n
floats_fit (n ∷ ns) (suc i) = floats_fit ns i

numbers_ask_fits : (ns : List ℕ) → FitAsked (numbers_ask ns)
numbers_ask_fits ns =
    let floats = floats_fit (drop list_head ns) in
    numbers_ask_keeps FitAsked (λ e. tt) ns (opening_fits ns) (tick_fits ns) tt (λ ev. tt) floats floats (λ e. tt) (λ e. tt)

read_asks_fits : (r : Option (List ℕ)) → FitAsked (read_asks r)
read_asks_fits (Some ns) = numbers_ask_fits ns
read_asks_fits None = tt

-- what a call by line asks
pub buffered_line_fits : (line out : List ℕ) → FitAsked (buffered_line_asks line out)
unfolding buffered_line_asks line_asks
buffered_line_fits line out = cond_both (ltb (length out) (need_of line)) _ _ FitAsked (λ e. tt) (λ e. read_asks_fits (line_numbers line))
