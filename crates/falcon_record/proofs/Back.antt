-- A state is had back from its columns.
use Prim.Native.Nat.{ℕ, ◌+◌, ◌*◌, ◌<◌, ◌≤◌}
use native.Mathlib.Omega.{arith}
use mathlib.Core.Bool.{Bool, true, false, cond}
use mathlib.Core.Path.{◌≡◌, refl, sym, ap, ◌∙◌}
use mathlib.Core.List.{List, [], ◌∷◌, ◌++◌, append_assoc, append-nil}
use lib.Dec.{lit<, lit≤}
use lib.ListN.{get_or, replicate, get_or-replicate}
use lib.Seq.{get_or_at}
use lib.Ieee.{Float, binary32, of_bits, to_bits}
use Rattle.relay_math.specs.Small.{bits, number_at, float_at}
use Rattle.relay_math.proofs.Laws.{read_back, flag_back}
use Rattle.relay_fsm.specs.Mode.{mode_or_disarmed}
use Rattle.relay_fsm.proofs.Finite.{mode_back}
use Rattle.relay_batt.specs.Config.{for_pack_of, FromPack}
use Rattle.relay_batt.specs.declared.config.BattConfig.{BattConfig}
use Rattle.relay_batt.specs.Fits.{Fit, FitBattery}
use Rattle.relay_batt.specs.Numbers.{estimator_numbers_of, state_numbers_of, silence_numbers_of, battery_numbers_of, estimator_by, state_by, battery_by}
use Rattle.relay_batt.proofs.Back as batt
use Rattle.falcon_state.specs.declared.zone.Zone.{Zone}
use Rattle.falcon_state.specs.declared.config.Config.{Config}
use Rattle.falcon_state.specs.declared.config.OpeningKind.{OpeningKind}
use Rattle.falcon_state.specs.declared.config.OpeningKind.TheVariants.{Ground, Raised}
use Rattle.falcon_state.specs.Config.{opening_number, opening_or_ground}
use Rattle.falcon_state.specs.Point.{origin, nowhere, max_waypoints, point_numbers_of}
use Rattle.falcon_state.specs.Zone.{no_zone, no_place, max_keepout_zones, zone_numbers_of}
use Rattle.falcon_totals.specs.Totals.{totals_numbers}
use Rattle.falcon_core.specs.declared.supervisor.Supervisor.{Supervisor}
use Rattle.falcon_core.specs.SoundState.{FitConfig, FitHold}
use Rattle.falcon_record.specs.Form.{Form, points_at, zone_width, zones_at, later_at, target_numbers, first_form, opening_form}
use Rattle.falcon_record.specs.Columns.{no_top, config_columns, check_columns, hold_columns, count_columns, use_columns, scalar_columns, point_columns, points_columns, zone_columns, zones_columns, later_columns, place_columns, columns_in}
use Rattle.falcon_record.specs.From.{opening_kind_from, config_from_of, battery_from_of, hold_from, totals_from, point_from_of, points_from, zone_from, zones_from, flight_from, record_from}
use Rattle.falcon_record.specs.Kept.{Kept, Ready, Carries, opened_as, carried_by}
use Rattle.falcon_record.specs.Saved.{columns_of}
use Rattle.falcon_record.proofs.Stretch.{place_at, refilled}
use Rattle.falcon_record.proofs.Lengths.{length_scalars, length_point, length_zone, length_before, length_before_later}

-- its own kind, where the form has the column, and else opening 1
opened_carried : (b : Bool) (s : Supervisor) → opened_as s (cond b s.flight.config.opening_kind Ground) ≡ cond b s (opened_as s Ground)
opened_carried true s = refl
opened_carried false s = refl

-- number n is the bits of x, an f32 value
float_back : (ns : List ℕ) (n : ℕ) (x : Float) → Fit x → number_at ns n ≡ bits x → float_at ns n ≡ x
float_back ns n x h e = ap (of_bits binary32) e ∙ read_back x h

-- ---- the columns before the first point, whatever stands behind them

module _ (s : Supervisor) (rest : List ℕ) where
  -- whatever the opening's kind is read as
  config_back :
      (form : Form) (kind : OpeningKind) →
      opening_kind_from form (scalar_columns s ++ rest) ≡ kind →
      FitConfig s.flight.config →
      config_from_of form (scalar_columns s ++ rest) ≡ record s.flight.config { opening_kind = kind }
  unfolding config_from_of scalar_columns config_columns
  config_back form kind e k =
      let c = s.flight.config in
      λ i. record {
        home = record { x = read_back c.home.x k.home.x i; y = read_back c.home.y k.home.y i; z = read_back c.home.z k.home.z i };
        fence_radius = read_back c.fence_radius k.fence i;
        cruise_alt = read_back c.cruise_alt k.cruise i;
        low_batt_v = read_back c.low_batt_v k.volts i;
        calibration_configured = flag_back c.calibration_configured i;
        opening_kind = e i;
      }

  battery_back : FitConfig s.flight.config → FromPack s.flight.battery.est.cfg s.flight.config.low_batt_v → FitBattery s.flight.battery → battery_from_of (scalar_columns s ++ rest) ≡ s.flight.battery
  unfolding battery_from_of battery_by estimator_by state_by scalar_columns config_columns check_columns battery_numbers_of estimator_numbers_of state_numbers_of silence_numbers_of
  battery_back c m k =
      let b = s.flight.battery in
      let volts = s.flight.config.low_batt_v in
      let made : for_pack_of b.est.cfg.cells (of_bits binary32 (bits volts)) ≡ b.est.cfg = ap (for_pack_of b.est.cfg.cells) (read_back volts c.volts) ∙ sym m.made in
      ap (λ (pack : BattConfig). battery_by pack (λ k. number_at (scalar_columns s ++ rest) (12 + k))) made ∙ batt.battery_back b rest k

  hold_back : FitHold s.flight.hold → hold_from (scalar_columns s ++ rest) ≡ s.flight.hold
  unfolding hold_from scalar_columns config_columns check_columns battery_numbers_of estimator_numbers_of state_numbers_of silence_numbers_of hold_columns
  hold_back k =
      let h = s.flight.hold in
      λ i. record {
        hold_xy = record { x = read_back h.hold_xy.x k.x i; y = read_back h.hold_xy.y k.y i };
        hold_regime = flag_back h.hold_regime i;
        hold_braking = flag_back h.hold_braking i;
        brake_s = read_back h.brake_s k.brake i;
        brake_rest_s = read_back h.brake_rest_s k.rest i;
      }

  totals_back : totals_from (scalar_columns s ++ rest) ≡ s.totals
  unfolding totals_from scalar_columns config_columns check_columns battery_numbers_of estimator_numbers_of state_numbers_of silence_numbers_of hold_columns count_columns totals_numbers
  totals_back = refl

-- ---- the number of the opening's kind

-- it is read as that kind
pub opening_back : (kind : OpeningKind) → opening_or_ground (opening_number kind) ≡ kind
opening_back Ground = refl
opening_back Raised = refl

-- U6: "A line from before U5 reads as opening 1", whatever its numbers are
pub older_ground : (form : Form) (ns : List ℕ) → form.has_opening ≡ false → (record_from form ns).flight.config.opening_kind ≡ Ground
unfolding record_from flight_from config_from_of opening_kind_from
older_ground form ns h = rw h refl

-- where the form has the column, it is the first of the later ones
later_opening : (form : Form) (c : Config) → form.has_opening ≡ true → later_columns form c ≡ opening_number c.opening_kind ∷ cond form.has_target (replicate target_numbers 0) []
unfolding later_columns
later_opening form c h = rw h refl

-- ---- the places

-- what is in a place not in use is written as zeros
origin_zeros : point_columns origin ≡ replicate point_numbers_of 0
unfolding point_columns to_bits of_bits
origin_zeros = refl

no_zone_zeros : (tops : Bool) → zone_columns tops 0 no_zone ≡ replicate (cond tops (zone_numbers_of + 1) zone_numbers_of) 0
unfolding zone_columns to_bits of_bits
no_zone_zeros true = refl
no_zone_zeros false = refl

zone_numbers_fit : (tops : Bool) → zone_numbers_of ≤ cond tops (zone_numbers_of + 1) zone_numbers_of
zone_numbers_fit true = lit≤ tt
zone_numbers_fit false = lit≤ tt

module _ (form : Form) (s : Supervisor) where
  -- number k of point i, in use or not
  point_at :
      (n i k : ℕ) → n ≡ points_at + (point_numbers_of * i + k) → i < form.places → k < point_numbers_of →
      (i < s.flight.mission.wp_count → number_at (columns_in form s) n ≡ number_at (point_columns (get_or s.waypoints i nowhere)) k)
      × (s.flight.mission.wp_count ≤ i → number_at (columns_in form s) n ≡ number_at (point_columns origin) k)
  unfolding columns_in points_columns
  point_at =
      place_at nowhere origin s.waypoints s.flight.mission.wp_count form.places point_numbers_of (λ b. point_columns) (λ b. length_point)
      (scalar_columns s) (zones_columns form s.flight.zones ++ later_columns form s.flight.config) points_at (length_scalars s)

  -- U2: "Places beyond the point or zone count are written 0", the points
  pub points_beyond :
      (i k : ℕ) → s.flight.mission.wp_count ≤ i → i < form.places → k < point_numbers_of →
      number_at (columns_in form s) (points_at + (point_numbers_of * i + k)) ≡ 0
  points_beyond i k h p q =
      (point_at (points_at + (point_numbers_of * i + k)) i k refl p q).1 h
      ∙ ap (λ (l : List ℕ). number_at l k) origin_zeros
      ∙ get_or-replicate point_numbers_of k 0 0 q

  point_back : (i : ℕ) → Kept s → Carries form s → i < s.flight.mission.wp_count → point_from_of (columns_in form s) (points_at + point_numbers_of * i) ≡ get_or s.waypoints i nowhere
  unfolding point_columns
  point_back i k c h =
      let ns = columns_in form s in
      let p = get_or s.waypoints i nowhere in
      let fit = k.fit.waypoints i in
      let at = points_at + point_numbers_of * i in
      let room : i < form.places = omega arith in
      λ j. record {
        x = float_back ns at p.x fit.x ((point_at at i 0 (omega arith) room (lit< tt)).0 h) j;
        y = float_back ns (at + 1) p.y fit.y ((point_at (at + 1) i 1 (omega arith) room (lit< tt)).0 h) j;
        z = float_back ns (at + 2) p.z fit.z ((point_at (at + 2) i 2 (omega arith) room (lit< tt)).0 h) j;
      }

  points_back : Kept s → Carries form s → points_from (columns_in form s) ≡ s.waypoints
  unfolding points_from columns_in scalar_columns config_columns check_columns battery_numbers_of estimator_numbers_of state_numbers_of silence_numbers_of hold_columns count_columns totals_numbers use_columns
  points_back k c =
      refilled _ nowhere origin max_waypoints s.waypoints s.flight.mission.wp_count (λ i. point_from_of (columns_in form s) (points_at + point_numbers_of * i))
      k.sound.mission.places (λ i h. point_back i k c h)

  -- the columns, those before the first zone together
  zones_apart : columns_in form s ≡ (scalar_columns s ++ points_columns form s) ++ (zones_columns form s.flight.zones ++ later_columns form s.flight.config)
  unfolding columns_in
  zones_apart = sym (append_assoc (scalar_columns s) (points_columns form s) _)

  -- number k of zone i, in use or not
  zone_at :
      (n i k : ℕ) → n ≡ zones_at form + (zone_width form * i + k) → i < max_keepout_zones → k < zone_width form →
      (i < s.flight.zones.zone_count → number_at (columns_in form s) n ≡ number_at (zone_columns form.has_tops no_top (get_or s.flight.zones.zones i no_place)) k)
      × (s.flight.zones.zone_count ≤ i → number_at (columns_in form s) n ≡ number_at (zone_columns form.has_tops 0 no_zone) k)
  unfolding zones_columns
  zone_at n i k e p q =
      let zs = s.flight.zones in
      let cols : Bool → Zone → List ℕ = λ b. zone_columns form.has_tops (cond b no_top 0) in
      rw zones_apart
      (place_at no_place no_zone zs.zones zs.zone_count max_keepout_zones (zone_width form) cols (λ b. length_zone form (cond b no_top 0))
      (scalar_columns s ++ points_columns form s) (later_columns form s.flight.config) (zones_at form) (length_before form s) n i k e p q)

  -- and the zones
  pub zones_beyond :
      (i k : ℕ) → s.flight.zones.zone_count ≤ i → i < max_keepout_zones → k < zone_width form →
      number_at (columns_in form s) (zones_at form + (zone_width form * i + k)) ≡ 0
  unfolding zone_width
  zones_beyond i k h p q =
      (zone_at (zones_at form + (zone_width form * i + k)) i k refl p q).1 h
      ∙ ap (λ (l : List ℕ). number_at l k) (no_zone_zeros form.has_tops)
      ∙ get_or-replicate _ k 0 0 q

  zone_back : (i : ℕ) → Kept s → i < s.flight.zones.zone_count → zone_from (columns_in form s) (zones_at form + zone_width form * i) ≡ get_or s.flight.zones.zones i no_place
  unfolding zone_columns zone_width
  zone_back i k h =
      let ns = columns_in form s in
      let z = get_or s.flight.zones.zones i no_place in
      let fit = k.fit.zones i in
      let at = zones_at form + zone_width form * i in
      let room : i < max_keepout_zones = omega (arith, k.sound.zones.few) in
      let wide = zone_numbers_fit form.has_tops in
      λ j. record {
        center = record {
          x = float_back ns at z.center.x fit.center.x ((zone_at at i 0 (omega arith) room (omega arith)).0 h) j;
          y = float_back ns (at + 1) z.center.y fit.center.y ((zone_at (at + 1) i 1 (omega arith) room (omega arith)).0 h) j;
          z = float_back ns (at + 2) z.center.z fit.center.z ((zone_at (at + 2) i 2 (omega arith) room (omega arith)).0 h) j;
        };
        radius = float_back ns (at + 3) z.radius fit.radius ((zone_at (at + 3) i 3 (omega arith) room (omega arith)).0 h) j;
      }

  zones_back : Kept s → zones_from form (columns_in form s) ≡ s.flight.zones
  unfolding zones_from columns_in scalar_columns config_columns check_columns battery_numbers_of estimator_numbers_of state_numbers_of silence_numbers_of hold_columns count_columns totals_numbers use_columns
  zones_back k =
      let zs = s.flight.zones in
      λ j. record {
        zones = refilled _ no_place no_zone max_keepout_zones zs.zones zs.zone_count (λ i. zone_from (columns_in form s) (zones_at form + zone_width form * i)) k.sound.zones (λ i h. zone_back i k h) j;
        zone_count = zs.zone_count;
      }

  -- ---- the opening's kind

  -- the columns before the later ones
  abbrev before_later : List ℕ
  before_later = (scalar_columns s ++ points_columns form s) ++ zones_columns form s.flight.zones

  later_apart : columns_in form s ≡ before_later ++ later_columns form s.flight.config
  later_apart = zones_apart ∙ sym (append_assoc (scalar_columns s ++ points_columns form s) (zones_columns form s.flight.zones) _)

  -- U5: "Kind 9 records which opening was used", in every form that has the column
  pub opening_at : form.has_opening ≡ true → number_at (columns_in form s) (later_at form) ≡ opening_number s.flight.config.opening_kind
  opening_at h =
      ap (λ (l : List ℕ). number_at l (later_at form)) (later_apart ∙ ap (λ (l : List ℕ). before_later ++ l) (later_opening form s.flight.config h))
      ∙ get_or_at before_later _ _ 0 (later_at form) (length_before_later form s)

  -- what it is read as
  abbrev kind_read : OpeningKind
  kind_read = cond form.has_opening s.flight.config.opening_kind Ground

  opening_read : opening_kind_from form (columns_in form s) ≡ kind_read
  unfolding opening_kind_from
  opening_read = go form.has_opening refl
    where
      go : (b : Bool) → form.has_opening ≡ b → cond b (opening_or_ground (number_at (columns_in form s) (later_at form))) Ground ≡ cond b s.flight.config.opening_kind Ground
      go true h = ap opening_or_ground (opening_at h) ∙ opening_back s.flight.config.opening_kind
      go false h = refl

  -- ---- all

  flight_back : Kept s → flight_from form (columns_in form s) ≡ (opened_as s kind_read).flight
  unfolding flight_from mode_or_disarmed columns_in scalar_columns config_columns check_columns battery_numbers_of estimator_numbers_of state_numbers_of silence_numbers_of hold_columns count_columns totals_numbers use_columns
  flight_back k =
      let f = s.flight in
      let rest = place_columns form s in
      λ i. record {
        config = config_back s rest form kind_read opening_read k.fit.config i;
        fsm = record { mode = mode_back f.fsm.mode i };
        battery = battery_back s rest k.fit.config k.pack k.fit.battery i;
        mission = f.mission;
        zones = zones_back k i;
        hold = hold_back s rest k.fit.hold i;
        counts = f.counts;
        check_table = f.check_table;
        rtl_latched = flag_back f.rtl_latched i;
        motors_were_off = flag_back f.motors_were_off i;
      }

  all_back : Kept s → Ready s → Carries form s → record_from form (columns_in form s) ≡ opened_as s kind_read
  unfolding record_from columns_in
  all_back k r c =
      λ i. record {
        flight = flight_back k i;
        waypoints = points_back k c i;
        opened = sym r.opened i;
        report_due = sym r.none_due i;
        totals = totals_back s (place_columns form s) i;
      }

  -- what is read from the columns is what was written, as far as the form carries it
  pub state_back : Kept s → Ready s → Carries form s → record_from form (columns_in form s) ≡ carried_by form s
  state_back k r c = all_back k r c ∙ opened_carried form.has_opening s

-- equal columns, equal states, as far as the form carries them: the written form carries all of a state
pub columns_same : (form : Form) (s u : Supervisor) → Kept s → Kept u → Ready s → Ready u → Carries form s → Carries form u → columns_in form s ≡ columns_in form u → carried_by form s ≡ carried_by form u
columns_same form s u k l r q c d e = sym (state_back form s k r c) ∙ ap (record_from form) e ∙ state_back form u l q d

-- ---- the columns that are written

-- the last one is the number of the opening's kind, of every state
pub opening_written : (s : Supervisor) → number_at (columns_of s) 135 ≡ opening_number s.flight.config.opening_kind
unfolding columns_of later_at zones_at zone_width
opening_written s = opening_at opening_form s refl

-- the 135 before it are those of the form before
pub older_columns : (s : Supervisor) → columns_in opening_form s ≡ columns_in first_form s ++ (opening_number s.flight.config.opening_kind ∷ [])
unfolding points_columns zones_columns later_columns
older_columns s =
    later_apart opening_form s
    ∙ ap (λ (l : List ℕ). l ++ (opening_number s.flight.config.opening_kind ∷ [])) (sym (later_apart first_form s ∙ append-nil (before_later first_form s)))
