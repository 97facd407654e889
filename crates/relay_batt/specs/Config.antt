-- `BattConfig` of relay-batt, and the one that an opening's volts give.
use Rattle.std.specs.Prelude.{◌≡◌, ℕ, ◌^◌, ◌<◌, cond, pos, ◌==◌, Float}
use Rattle.std.specs.Float.{binary32}
use Rattle.std.specs.Float.Ieee.{sub, div, of_int}
use Rattle.relay_math.specs.Small.{f32, f32_one}
use Rattle.relay_batt.specs.Curve.{sanitize_of}
use Rattle.relay_batt.specs.declared.config.BattConfig.{BattConfig}

-- U3: "the default of four goes to six"
abbrev pub pack_cells : ℕ
pack_cells = 6

-- "Latches trip at 2.0 s below"
abbrev pub pack_debounce_s : Float
pack_debounce_s = f32 0x4000_0000

-- `BattConfig::default` with these cells: 5000 mAh, 0.024 ohm; low and critical at a charge of 0.25 and 0.10, or at 3.70 V and 3.55 V a cell
unfoldable pub default_of : BattConfig
default_of = record {
  capacity_mah = f32 0x459c_4000;
  cells = pack_cells;
  r_internal = f32 0x3cc4_9ba6;
  low_soc = f32 0x3e80_0000;
  crit_soc = f32 0x3dcc_cccd;
  low_v_cell_fallback = f32 0x406c_cccd;
  crit_v_cell_fallback = f32 0x4063_3333;
  debounce_s = pack_debounce_s;
}

-- `cells` of `update`: 0 cells count as 1
unfoldable pub cells_of : ℕ → Float
cells_of cells = cond (cells == 0) f32_one (of_int binary32 (pos cells))

-- `low_batt_v`, `rest` and `v` over the cells: volts of the pack as volts a cell
unfoldable pub per_cell_of : ℕ → Float → Float
per_cell_of cells volts = div binary32 volts (cells_of cells)

-- the 0.15 V a cell between low and critical
abbrev pub crit_below_low : Float
crit_below_low = f32 0x3e19_999a

-- U3: "Opening volts are then divided by the cell count, not by 4, for both thresholds". The built-in pack with so many cells
unfoldable pub for_pack_of : ℕ → Float → BattConfig
for_pack_of cells volts =
    let low = per_cell_of cells volts in
    record default_of { cells = cells; low_v_cell_fallback = low; crit_v_cell_fallback = sub binary32 low crit_below_low }

-- the configuration is the one that opening volts give for its own cell count, a u32
pub record FromPack (cfg : BattConfig) (volts : Float) : Type 0 where
  pub made : cfg ≡ for_pack_of cfg.cells volts
  pub cells_below : cfg.cells < 2 ^ 32

-- the configuration that an opening sets: the default's cell count
abbrev pub for_opening_volts_of : Float → BattConfig
for_opening_volts_of volts = for_pack_of pack_cells volts

-- `cap` of `update`: the capacity cut to 1..1e6 mAh, and 5000 where it is not finite
unfoldable pub capacity_of : BattConfig → Float
capacity_of cfg = sanitize_of cfg.capacity_mah f32_one (f32 0x4974_2400) (f32 0x459c_4000)
