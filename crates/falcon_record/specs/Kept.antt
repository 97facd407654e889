-- What the laws of the record rest on beside the columns.
use Rattle.std.specs.Prelude.{◌≤◌, ◌<◌, ◌^◌, ◌≡◌, true, false, cond}
use Rattle.columns.specs.Line.{InRange}
use Rattle.relay_batt.specs.Config.{FromPack}
use Rattle.falcon_state.specs.declared.config.OpeningKind.{OpeningKind}
use Rattle.falcon_state.specs.declared.config.OpeningKind.TheVariants.{Ground}
use Rattle.falcon_totals.specs.Totals.{totals_numbers}
use Rattle.falcon_core.specs.declared.supervisor.Supervisor.{Supervisor}
use Rattle.falcon_core.specs.SoundState.{SoundFlight, FitFlight}
use Rattle.falcon_record.specs.Form.{Form}

-- floats are f32 values, arrays have their lengths and zeros in unused places, and numbers are below 2^32: true of every state that a list of calls leads
-- to, where every lent float is an f32 value
pub record Kept (s : Supervisor) : Type 0 where
  pub fit : FitFlight s.flight s.waypoints
  pub sound : SoundFlight s.flight s.waypoints
  pub pack : FromPack s.flight.battery.est.cfg s.flight.config.low_batt_v
  pub wind_below : s.flight.counts.wind_count < 2 ^ 32
  pub totals_below : InRange (totals_numbers s.totals)

-- there was an opening, and no report is due: kind 8 is accepted in no other state
pub record Ready (s : Supervisor) : Type 0 where
  pub opened : s.opened ≡ true
  pub none_due : s.report_due ≡ false

-- the form has a place for each point in use
abbrev pub Carries : Form → Supervisor → Type 0
Carries form s = s.flight.mission.wp_count ≤ form.places

-- a state with this for its opening's kind
abbrev pub opened_as : Supervisor → OpeningKind → Supervisor
opened_as s kind = record s { flight = record s.flight { config = record s.flight.config { opening_kind = kind } } }

-- what a line of a form carries of a state: all of it, but that a line from before U5 reads as opening 1
abbrev pub carried_by : Form → Supervisor → Supervisor
carried_by form s = cond form.has_opening s (opened_as s Ground)
