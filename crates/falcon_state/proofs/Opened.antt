-- An opening is remembered.
use mathlib.Core.Path.{◌≡◌, refl}
use Rattle.falcon_state.specs.declared.flight.Opening.{Opening}
use Rattle.falcon_state.specs.Flight.{opened_of}

-- the configuration has the opening's own fields, which opening it was among them
pub opened_config :
    (o : Opening)
    → (opened_of o).config
    ≡ record {
      home = o.home;
      fence_radius = o.fence_radius;
      cruise_alt = o.cruise_alt;
      low_batt_v = o.low_batt_v;
      calibration_configured = o.calibration_configured;
      opening_kind = o.opening_kind;
    }
unfolding opened_of
opened_config o = refl
