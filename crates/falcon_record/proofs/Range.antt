-- Every column is a number that a field may hold.
use Prim.Native.Nat.{ℕ, zero, suc, ◌<◌, ◌^◌}
use native.Mathlib.Omega.{arith}
use mathlib.Core.Bool.{Bool, true, false, cond}
use mathlib.Core.List.{List, [], ◌∷◌, ◌++◌}
use lib.Dec.{ltb, lit<}
use lib.ListN.{get_or, replicate}
use lib.Ieee.{Float, binary32}
use lib.Ieee.Bits.{to_bits-lt}
use Rattle.std.proofs.lemmas.Bool.{cond_both}
use Rattle.columns.specs.Line.{InRange}
use Rattle.relay_math.specs.Small.{flag_number, bits}
use Rattle.relay_fsm.proofs.Finite.{mode_number_below}
use Rattle.relay_batt.specs.Numbers.{estimator_numbers_of, state_numbers_of, silence_numbers_of, battery_numbers_of}
use Rattle.relay_batt.specs.Fits.{Fit, FitEstimator, FitState, FitBattery}
use Rattle.relay_batt.specs.declared.battery.Battery.{Battery}
use Rattle.relay_batt.specs.declared.estimator.BattState.{BattState}
use Rattle.relay_batt.specs.declared.estimator.BatteryEstimator.{BatteryEstimator}
use Rattle.falcon_state.specs.declared.point.Point.{Point}
use Rattle.falcon_state.specs.declared.zone.Zone.{Zone}
use Rattle.falcon_state.specs.declared.config.Config.{Config}
use Rattle.falcon_state.specs.declared.config.OpeningKind.{OpeningKind}
use Rattle.falcon_state.specs.declared.config.OpeningKind.TheVariants.{Ground, Raised}
use Rattle.falcon_state.specs.Config.{opening_number}
use Rattle.falcon_state.specs.declared.hold.Hold.{Hold}
use Rattle.falcon_state.specs.Point.{origin, nowhere}
use Rattle.falcon_state.specs.Zone.{no_zone, no_place, max_keepout_zones}
use Rattle.falcon_state.specs.declared.flight.FlightSupervisor.{FlightSupervisor}
use Rattle.falcon_core.specs.declared.supervisor.Supervisor.{Supervisor}
use Rattle.falcon_core.specs.SoundState.{FitPoint, FitZone, FitConfig, FitHold, FitFlight, SoundFlight}
use Rattle.falcon_core.proofs.Fits.{origin_fits, no_zone_fits}
use Rattle.falcon_record.specs.Form.{Form, target_numbers}
use Rattle.falcon_record.specs.Columns.{no_top, config_columns, check_columns, hold_columns, count_columns, use_columns, scalar_columns, placed, place_in, point_columns, points_columns, zone_columns, zones_columns, later_columns, place_columns, columns_in}
use Rattle.falcon_record.specs.Kept.{Kept}

in_append : (a b : List ℕ) → InRange a → InRange b → InRange (a ++ b)
in_append [] b p q = q
in_append (n ∷ a) b p q = (p.0, (in_append a b p.1 q))

in_placed : (f : ℕ → List ℕ) (n : ℕ) → ((i : ℕ) → InRange (f i)) → InRange (placed f n)
unfolding placed
in_placed f zero h = tt
in_placed f (suc n) h = in_append (placed f n) (f n) (in_placed f n h) (h n)

in_cond : (b : Bool) (l : List ℕ) → InRange l → InRange (cond b l [])
in_cond b l h = cond_both b l [] InRange (λ e. h) (λ e. tt)

bits_in : (x : Float) → Fit x → bits x < 2 ^ 32
bits_in x h = to_bits-lt binary32 x h

flag_in : (b : Bool) → flag_number b < 2 ^ 32
flag_in true = lit< tt
flag_in false = lit< tt

-- ---- the columns before the first point

config_in : (c : Config) (cells : ℕ) → FitConfig c → cells < 2 ^ 32 → InRange (config_columns c cells)
unfolding config_columns
config_in c cells k h = search (bits_in, flag_in) depth 16

checks_in : (f : FlightSupervisor) (ps : List Point) → SoundFlight f ps → InRange (check_columns f)
unfolding check_columns
checks_in f ps k = (omega (arith, k.checks.required_below), (omega (arith, k.checks.passed_below), (omega (arith, mode_number_below f.fsm.mode), tt)))

estimator_in : (e : BatteryEstimator) → FitEstimator e → InRange (estimator_numbers_of e)
unfolding estimator_numbers_of
estimator_in e k = search (bits_in, flag_in) depth 16

shown_in : (s : BattState) → FitState s → InRange (state_numbers_of s)
unfolding state_numbers_of
shown_in s k = search (bits_in, flag_in) depth 16

silence_in : (b : Battery) → FitBattery b → InRange (silence_numbers_of b)
unfolding silence_numbers_of
silence_in b k = search (bits_in, flag_in) depth 16

battery_in : (b : Battery) → FitBattery b → InRange (battery_numbers_of b)
unfolding battery_numbers_of
battery_in b k =
    in_append (estimator_numbers_of b.est) _ (estimator_in b.est k.estimator)
    (in_append (state_numbers_of b.state) _ (shown_in b.state k.shown) (silence_in b k))

hold_in : (h : Hold) → FitHold h → InRange (hold_columns h)
unfolding hold_columns
hold_in h k = search (bits_in, flag_in) depth 16

counts_in : (f : FlightSupervisor) (ps : List Point) → SoundFlight f ps → f.counts.wind_count < 2 ^ 32 → InRange (count_columns f)
unfolding count_columns
counts_in f ps k h = let tilt : f.counts.runaway_count < 2 ^ 32 = omega (arith, k.tilt.at_most) in search flag_in depth 16

use_in : (f : FlightSupervisor) (ps : List Point) → SoundFlight f ps → InRange (use_columns f)
unfolding use_columns
use_in f ps k =
    let few = k.mission.places.few in
    (omega arith, (omega (arith, k.mission.leg), (omega (arith, k.zones.few), tt)))

scalars_in : (s : Supervisor) → Kept s → InRange (scalar_columns s)
unfolding scalar_columns
scalars_in s k =
    let f = s.flight in
    let opening = config_in f.config f.battery.est.cfg.cells k.fit.config k.pack.cells_below in
    let checks = checks_in f s.waypoints k.sound in
    let battery = battery_in f.battery k.fit.battery in
    let hold = hold_in f.hold k.fit.hold in
    let counts = counts_in f s.waypoints k.sound k.wind_below in
    let places = use_in f s.waypoints k.sound in
    search (in_append, lit<, opening, checks, battery, hold, counts, k.totals_below, places) depth 24

-- ---- the places

-- what holds of every place, and of what a place not in use is written as
place_holds : {A : Type 0} (Held : A → Type 0) (d z : A) (l : List A) (count i : ℕ) → ((j : ℕ) → Held (get_or l j d)) → Held z → Held (place_in d z l count i)
unfolding place_in
place_holds Held d z l count i h k = cond_both (ltb i count) (get_or l i d) z Held (λ e. h i) (λ e. k)

point_in : (p : Point) → FitPoint p → InRange (point_columns p)
unfolding point_columns
point_in p k = search bits_in depth 16

points_in : (form : Form) (s : Supervisor) → FitFlight s.flight s.waypoints → InRange (points_columns form s)
unfolding points_columns
points_in form s k =
    in_placed _ form.places (λ i. point_in _ (place_holds FitPoint nowhere origin s.waypoints s.flight.mission.wp_count i k.waypoints origin_fits))

zone_in : (tops : Bool) (top : ℕ) (z : Zone) → top < 2 ^ 32 → FitZone z → InRange (zone_columns tops top z)
unfolding zone_columns
zone_in tops top z h k = let last = in_cond tops (top ∷ []) (h, tt) in search bits_in depth 16

zones_in : (form : Form) (f : FlightSupervisor) (ps : List Point) → FitFlight f ps → InRange (zones_columns form f.zones)
unfolding zones_columns
zones_in form f ps k =
    let count = f.zones.zone_count in
    in_placed _ max_keepout_zones
    (λ i.
    zone_in form.has_tops _ _ (cond_both (ltb i count) no_top 0 (λ n. n < 2 ^ 32) (λ e. lit< tt) (λ e. lit< tt))
    (place_holds FitZone no_place no_zone f.zones.zones count i k.zones no_zone_fits))

opening_below : (kind : OpeningKind) → opening_number kind < 2 ^ 32
opening_below Ground = lit< tt
opening_below Raised = lit< tt

later_in : (form : Form) (c : Config) → InRange (later_columns form c)
unfolding later_columns
later_in form c =
    in_append _ _ (in_cond form.has_opening _ (search opening_below depth 16))
    (in_cond form.has_target (replicate target_numbers 0) (search (lit<) depth 16))

-- every column of a kept state is below 2^32
pub columns_in_range : (form : Form) (s : Supervisor) → Kept s → InRange (columns_in form s)
unfolding columns_in
columns_in_range form s k =
    in_append (scalar_columns s) (place_columns form s) (scalars_in s k)
    (in_append (points_columns form s) _ (points_in form s k.fit)
    (in_append (zones_columns form s.flight.zones) _ (zones_in form s.flight s.waypoints k.fit) (later_in form s.flight.config)))
