-- The battery as 29 numbers: the pack, the estimator, what is shown, and the silence with its two flags.
use Rattle.std.specs.Prelude.{ℕ, ◌+◌, cond, List, [], ◌∷◌, ◌++◌, eqb, ltb, length}
use Rattle.std.proofs.lemmas.List.Edits.{sets}
use Rattle.relay_batt.specs.declared.config.BattConfig.{BattConfig}
use Rattle.relay_batt.specs.declared.latch.TripLatch.{TripLatch}
use Rattle.relay_batt.specs.declared.battery.Battery.{Battery}
use Rattle.relay_batt.specs.declared.battery.Reading.{Reading}
use Rattle.relay_batt.specs.declared.battery.Reading.TheVariants.{Nothing, Volts, VoltsAmps}
use Rattle.relay_batt.specs.Config.{for_pack_of}
use Rattle.relay_batt.specs.Battery.{new_battery_of, update_of}
use Rattle.relay_math.specs.Small.{f32, number_at, float_at, flag_at, bits}
use Rattle.relay_batt.specs.Numbers.{battery_numbers_of, battery_by}

-- how many numbers a battery is
abbrev pub size : ℕ
size = 29

-- ---- from numbers

-- the pack, numbers 0 to 7
unfoldable pub pack_from_of : List ℕ → BattConfig
pack_from_of ns = record {
  capacity_mah = float_at ns 0;
  cells = number_at ns 1;
  r_internal = float_at ns 2;
  low_soc = float_at ns 3;
  crit_soc = float_at ns 4;
  low_v_cell_fallback = float_at ns 5;
  crit_v_cell_fallback = float_at ns 6;
  debounce_s = float_at ns 7;
}

-- the latch whose two numbers begin at a place
unfoldable pub latch_from_of : List ℕ → ℕ → TripLatch
latch_from_of ns i = record { below_s = float_at ns i; latched = flag_at ns (i + 1) }

-- the numbers behind the pack's
abbrev pub behind_pack : List ℕ → ℕ → ℕ
behind_pack ns k = number_at ns (8 + k)

-- the battery, its pack and numbers 8 to 28
unfoldable pub battery_by_numbers : List ℕ → Battery
battery_by_numbers ns = battery_by (pack_from_of ns) (behind_pack ns)

-- a reading by its kind: 0 nothing, 1 volts, any other volts and amps
unfoldable pub reading_by_numbers : ℕ → ℕ → ℕ → Reading
reading_by_numbers kind volts amps =
    cond (eqb kind 0) Nothing
    (cond (eqb kind 1) (Volts (f32 volts))
    (VoltsAmps (f32 volts) (f32 amps)))

-- `Battery::new` by numbers
unfoldable pub new_from : List ℕ → Battery
new_from ns = new_battery_of (pack_from_of ns)

-- `Battery::new` at an opening's volts, for so many cells
unfoldable pub opened_for : ℕ → ℕ → Battery
opened_for cells volts = new_battery_of (for_pack_of cells (f32 volts))

-- `Battery::update` by numbers
unfoldable pub update_from_of : List ℕ → ℕ → ℕ → ℕ → ℕ → Battery
update_from_of ns dt kind volts amps = update_of (battery_by_numbers ns) (f32 dt) (reading_by_numbers kind volts amps)

-- ---- to numbers

-- the pack's eight
unfoldable pub pack_numbers_of : BattConfig → List ℕ
pack_numbers_of c =
    bits c.capacity_mah
    ∷ c.cells
    ∷ bits c.r_internal
    ∷ bits c.low_soc
    ∷ bits c.crit_soc
    ∷ bits c.low_v_cell_fallback
    ∷ bits c.crit_v_cell_fallback
    ∷ bits c.debounce_s
    ∷ []

-- all 29, in the order in which they are read
unfoldable pub numbers_with_pack : Battery → List ℕ
numbers_with_pack b = pack_numbers_of b.est.cfg ++ battery_numbers_of b

-- 1 where there is no room for a battery, else 0
unfoldable pub short_number : List ℕ → ℕ
short_number ns = cond (ltb (length ns) size) 1 0

-- the numbers after a battery is stored at their start, where there is room for it; those behind it are as they were
unfoldable pub stored_battery_of : List ℕ → Battery → List ℕ
stored_battery_of ns b = cond (ltb (length ns) size) ns (sets ns 0 (numbers_with_pack b))
