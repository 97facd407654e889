-- Demand 3: the two-tick, rank and fifty-tick rules as one claim about every list of calls.
use Rattle.std.specs.Prelude.{ℕ, zero, suc, ◌≤◌, Bool, true, false, ◌&&◌, List, [], ◌∷◌, ◌++◌, ◌⊎◌, ◌↔◌, ◌≢◌, ◌≡◌, T, Float, Option, Some, None}
use Rattle.std.specs.Float.{binary32}
use Rattle.std.specs.Float.Ieee.{sub, neg, lt}
use Rattle.relay_math.specs.Small.{f32}
use Rattle.relay_fsm.specs.declared.Mode.{Mode}
use Rattle.relay_fsm.specs.declared.Mode.TheVariants.{Disarmed, Terminated}
use Rattle.relay_fsm.specs.Mode.{is_airborne_of, rank_of}
use Rattle.falcon_state.specs.declared.config.Config.{Config}
use Rattle.falcon_state.specs.declared.config.OpeningKind.{OpeningKind}
use Rattle.falcon_state.specs.declared.config.OpeningKind.TheVariants.{Ground, Raised}
use Rattle.falcon_state.specs.declared.tick.Tick.{Tick}
use Rattle.falcon_core.specs.declared.supervisor.Supervisor.{Supervisor}
use Rattle.falcon_core.specs.Land.{landing_or_off_of, through_land_of}
use Rattle.falcon_core.specs.Calls.{Request, ticks, legs_in}
use Rattle.call_lists.specs.Lists.{Call, Place, Began, accepted_request, place_from, place_at_of, next_place_of, latch_of, calm, calm_from, ticks_from}

-- from the second accepted tick on
abbrev pub landing_ticks : ℕ
landing_ticks = 2

-- a tick and the 49 before it
abbrev pub tumbling_ticks : ℕ
tumbling_ticks = 50

-- 0.15 m
abbrev pub touchdown_height : Float
touchdown_height = f32 0x3e19_999a

-- 1.05 rad
abbrev pub tumbling_tilt : Float
tumbling_tilt = f32 0x3f86_6666

-- the height over the pad that an opening of this kind measures at z, home being at home_z. U5: "measures height as `home[2] − p[2]`" is kind 10's
unfoldable pub own_height : OpeningKind → Float → Float → Float
own_height Ground home_z z = neg z
own_height Raised home_z z = sub binary32 home_z z

-- height under 0.15 m: "Height and tilt are those of the tick's own fields, compared as f32; a NaN is neither under nor above." U5: "takes the opening's own
-- height", here that of the latest accepted opening; no tick is accepted before one
unfoldable pub below_touchdown_height : Option Config → Tick → Bool
below_touchdown_height (Some c) t = lt (own_height c.opening_kind c.home.z t.p.z) touchdown_height
below_touchdown_height None t = false

-- a tick that began airborne with tilt above 1.05 rad
unfoldable pub tumbling : Began → Bool
tumbling b = is_airborne_of b.mode && lt tumbling_tilt b.tick.tilt

-- there are n accepted ticks, and each of the latest n began airborne with tilt above 1.05 rad
unfoldable pub tumbling_for : ℕ → List Began → Bool
tumbling_for zero l = true
tumbling_for (suc n) [] = false
tumbling_for (suc n) (b ∷ l) = tumbling b && tumbling_for n l

-- Wherever in the list the shuttle is airborne with its critical battery latch set, then, as long as no command or opening is accepted after that place,
-- the mode is Land, Disarmed or Terminated from the second accepted tick after it on, whatever the ticks and reports bring.
abbrev pub TwoTicks : Place → List Call → Type 0
TwoTicks here further =
    T (is_airborne_of here.mode) →
    T (latch_of here.battery) →
    T (calm_from here further) →
    landing_ticks ≤ ticks_from here further →
    T (landing_or_off_of (place_from here further).mode)

-- an accepted tick with height under 0.15 m, by the opening's configuration, that goes from this state to Disarmed through Land
pub record TouchdownTick (opening : Option Config) (s : Supervisor) (request : Option Request) (after : Mode) : Type 0 where
  pub tick : Tick
  pub is_tick : request ≡ Some (ticks tick)
  pub low : T (below_touchdown_height opening tick)
  pub disarmed : after ≡ Disarmed
  pub through_land : T (through_land_of s.flight (legs_in s) tick)

-- No tick or report lowers the rank, save a tick with height under 0.15 m that goes to Disarmed through Land; nor does any other call that is no accepted
-- opening or command.
abbrev pub RankKept : Place → Call → Type 0
RankKept here c =
    let s = here.supervisor in
    let request = accepted_request s c in
    let after = (next_place_of here c).mode in
    T (calm request) → (rank_of here.mode ≤ rank_of after) ⊎ TouchdownTick here.config s request after

-- An accepted tick enters Terminated exactly when it and the 49 accepted ticks before it, all since the latest accepted opening, each began airborne with
-- tilt above 1.05 rad.
abbrev pub FiftyTicks : Place → Call → Type 0
FiftyTicks here c =
    (t : Tick) →
    accepted_request here.supervisor c ≡ Some (ticks t) →
    ((here.mode ≢ Terminated) × ((next_place_of here c).mode ≡ Terminated)) ↔ T (tumbling_for tumbling_ticks (next_place_of here c).began)

-- all three at every place of a list of calls, first call first, from the state with no opening
pub record Holds (calls : List Call) : Type 0 where
  pub two_ticks : (here further rest : List Call) → calls ≡ here ++ (further ++ rest) → TwoTicks (place_at_of here) further
  pub rank_kept : (here : List Call) (c : Call) (rest : List Call) → calls ≡ here ++ (c ∷ rest) → RankKept (place_at_of here) c
  pub fifty_ticks : (here : List Call) (c : Call) (rest : List Call) → calls ≡ here ++ (c ∷ rest) → FiftyTicks (place_at_of here) c

-- demand 3
abbrev pub Demand3 : Type 0
Demand3 = (calls : List Call) → Holds calls
