-- Lists of calls, as document 01's section of that name has them: a call by line or by values, and the places of a list.
use Rattle.std.specs.Prelude.{ℕ, ◌+◌, Bool, true, false, cond, ◌&&◌, List, [], ◌∷◌, ltb, length, Option, Some, None, Ok, Err, is_ok}
use Rattle.std.specs.Option.{option_map}
use Rattle.std.specs.Result.{result_ok}
use Rattle.relay_fsm.specs.declared.Mode.{Mode}
use Rattle.relay_fsm.specs.declared.Mode.TheVariants.{Disarmed}
use Rattle.relay_batt.specs.declared.battery.Battery.{Battery}
use Rattle.relay_batt.specs.Battery.{update_of}
use Rattle.falcon_state.specs.declared.config.Config.{Config}
use Rattle.falcon_state.specs.declared.tick.Tick.{Tick}
use Rattle.falcon_state.specs.Flight.{opened_of}
use Rattle.falcon_totals.specs.Counts.{Counted}
use Rattle.falcon_core.specs.declared.supervisor.Supervisor.{Supervisor}
use Rattle.falcon_core.specs.declared.supervisor.Answered.{Answered}
use Rattle.falcon_core.specs.Calls.{unopened, Request, opens, ticks, reports, commands, plans, saves, step_of}
use Rattle.falcon_core.specs.declared.refusal.Refusal.TheVariants.{ShortBuffer}
use Rattle.falcon_core.specs.SoundState.{FitRequest}
use Rattle.requests.specs.Kinds.{Asked}
use Rattle.falcon_record.specs.Saved.{record_room, save_step, saved_over}
use Rattle.requests.specs.ByLine.{buffered_line_asks, line_step, buffer_after}

-- "by line or by lent values": a line with its answer buffer in full, or what is asked by values, the state also with the array that takes its columns
pub data Call : Type 0 where
  by_values : Request → Call
  by_line : List ℕ → List ℕ → Call
  by_array : List ℕ → Call

-- what a call asks, or the refusal that fits it whatever the state
abbrev pub call_asks : Call → Asked
call_asks (by_values r) = Ok r
call_asks (by_line line out) = buffered_line_asks line out
call_asks (by_array a) = cond (ltb (length a) record_room) (Err ShortBuffer) (Ok (plans saves))

-- the state after a call and its answer: the definition by which `answer` and the calls by values are stated
unfoldable pub call_step : Supervisor → Call → Answered
call_step s (by_values r) = step_of s r
call_step s (by_line line out) = line_step s line out
call_step s (by_array a) = save_step s a

-- the memory lent for writing after a call: the answer buffer, or the array
unfoldable pub lent_after : Supervisor → Call → List ℕ
lent_after s (by_values r) = []
lent_after s (by_line line out) = buffer_after s line out
lent_after s (by_array a) = saved_over s a

-- "Accepted means that the refusal answered is 0."
abbrev pub accepted : Answered → Bool
accepted a = is_ok a.answer.outcome

-- what a call asks, if it is accepted
unfoldable pub accepted_request : Supervisor → Call → Option Request
accepted_request s c = cond (accepted (call_step s c)) (result_ok (call_asks c)) None

-- an accepted tick and the mode that it began in
pub record Began : Type 0 where
  pub mode : Mode
  pub tick : Tick

-- a place, made by the calls before it: the state there, the mode there, and since the latest accepted opening its configuration, the battery, the
-- accepted ticks, and the accepted ticks, reports and commands, the latest first
pub record Place : Type 0 where
  pub supervisor : Supervisor
  pub mode : Mode
  pub config : Option Config
  pub battery : Option Battery
  pub began : List Began
  pub counted : List Counted

-- "The mode there is the one that the latest accepted call answered, 0 before any."
abbrev pub next_mode : Mode → Answered → Mode
next_mode m a = cond (accepted a) a.answer.mode m

-- the configuration that the latest accepted opening sets, None before one
abbrev pub next_config : Option Config → Option Request → Option Config
next_config c (Some (opens o)) = Some (opened_of o).config
next_config c r = c

-- "starting from what the latest accepted opening sets and run over dt and reading of each accepted tick since"
abbrev pub next_battery : Option Battery → Option Request → Option Battery
next_battery b (Some (opens o)) = Some (opened_of o).battery
next_battery b (Some (ticks t)) = option_map (λ (x : Battery). update_of x t.dt t.reading) b
next_battery b r = b

-- the accepted ticks since the latest accepted opening: "A tick begins in the mode before it"
abbrev pub next_began : Mode → List Began → Option Request → List Began
next_began m l (Some (opens o)) = []
next_began m l (Some (ticks t)) = record { mode = m; tick = t } ∷ l
next_began m l r = l

-- U1: accepted ticks, reports and commands "since the opening", each with the mode that it began in and the one that it ended in
abbrev pub next_counted : Mode → Mode → List Counted → Option Request → List Counted
next_counted m n l (Some (opens o)) = []
next_counted m n l (Some (ticks t)) = record { ticked = true; began = m; ended = n } ∷ l
next_counted m n l (Some (reports failed)) = record { ticked = false; began = m; ended = n } ∷ l
next_counted m n l (Some (commands ev level low)) = record { ticked = false; began = m; ended = n } ∷ l
next_counted m n l r = l

-- the place after a call with this answer, which accepted this request, if any
unfoldable pub place_after : Place → Answered → Option Request → Place
place_after p a r =
    record {
      supervisor = a.supervisor;
      mode = next_mode p.mode a;
      config = next_config p.config r;
      battery = next_battery p.battery r;
      began = next_began p.mode p.began r;
      counted = next_counted p.mode (next_mode p.mode a) p.counted r;
    }

-- "each further one the state that the call before it returned, after a refusal too"
unfoldable pub next_place_of : Place → Call → Place
next_place_of p c = place_after p (call_step p.supervisor c) (accepted_request p.supervisor c)

-- the place after a list of calls, first call first
unfoldable pub place_from : Place → List Call → Place
place_from p [] = p
place_from p (c ∷ l) = place_from (next_place_of p c) l

-- the answers to a list of calls
unfoldable pub answers_from : Place → List Call → List Answered
answers_from p [] = []
answers_from p (c ∷ l) = call_step p.supervisor c ∷ answers_from (next_place_of p c) l

-- and the memory lent for writing after each
unfoldable pub lent_from : Place → List Call → List (List ℕ)
lent_from p [] = []
lent_from p (c ∷ l) = lent_after p.supervisor c ∷ lent_from (next_place_of p c) l

-- "The first call gets the state with no opening": the place before the first call
unfoldable pub first_place : Place
first_place = record { supervisor = unopened; mode = Disarmed; config = None; battery = None; began = []; counted = [] }

-- the place after these calls
abbrev pub place_at_of : List Call → Place
place_at_of l = place_from first_place l

-- "The critical battery latch at a place"; "before an opening it is not set"
abbrev pub latch_of : Option Battery → Bool
latch_of None = false
latch_of (Some b) = b.est.critical.latched

-- the floats lent by values are f32 values: in definitions a float may be one that no f32 holds. A line gives bits
abbrev pub FitCall : Call → Type 0
FitCall (by_values r) = FitRequest r
FitCall c = Unit {0}

-- no accepted opening and no accepted command
abbrev pub calm : Option Request → Bool
calm (Some (opens o)) = false
calm (Some (commands ev level low)) = false
calm r = true

-- no command or opening is accepted among the calls after a place
unfoldable pub calm_from : Place → List Call → Bool
calm_from p [] = true
calm_from p (c ∷ l) = calm (accepted_request p.supervisor c) && calm_from (next_place_of p c) l

-- 1 for an accepted tick
abbrev pub tick_count : Option Request → ℕ
tick_count (Some (ticks t)) = 1
tick_count r = 0

-- the accepted ticks among the calls after a place
unfoldable pub ticks_from : Place → List Call → ℕ
ticks_from p [] = 0
ticks_from p (c ∷ l) = tick_count (accepted_request p.supervisor c) + ticks_from (next_place_of p c) l
