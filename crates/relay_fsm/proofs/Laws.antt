-- What each event can lead to, which modes an event can end, that no event but Touchdown lowers the rank, and what a failsafe does.
use mathlib.Core.Path.{◌≡◌, refl}
use mathlib.Core.Bool.{Bool, false, cond, ◌&&◌, ◌||◌, not}
use mathlib.Core.Logic.{◌⊎◌}
use Prim.Native.Nat.{◌≤◌}
use lib.Dec.{T, leb, leb→le}
use lib.Ieee.Fits.{and_i, and_l, and_r}
use Rattle.std.proofs.Math.Logic.{⊎_map}
use Rattle.std.specs.List.{list_all}
use Rattle.relay_fsm.specs.declared.Mode.{Mode}
use Rattle.relay_fsm.specs.declared.Mode.TheVariants.{Disarmed, Armed, Takeoff, Loiter, Mission, Land, Rtl, Terminated}
use Rattle.relay_fsm.specs.declared.Event.{Event}
use Rattle.relay_fsm.specs.declared.Event.TheVariants.{Arm, RequestTakeoff, RequestDisarm, Touchdown, Failsafe, Terminate}
use Rattle.relay_fsm.specs.declared.Gates.{Gates}
use Rattle.relay_fsm.specs.Mode.{is_mode, is_airborne_of, rank_of}
use Rattle.relay_fsm.specs.Event.{is_event, all_events}
use Rattle.relay_fsm.specs.Fsm.{is_pair, row_of, on_of}
use Rattle.relay_fsm.proofs.Finite.{◌⇒◌, then, either, is_mode→eq, eq→is_mode, is_event→eq, is_pair→eq, at_e, all, at}

-- ---- rules over modes, events and gates

abbrev all_mg : (Mode → Gates → Bool) → Bool
all_mg f = all 4 (λ l t p r m. f m (record { level = l; throttle_low = t; have_position = p; prearm_ok = r }))

at_mg : (f : Mode → Gates → Bool) → T (all_mg f) → (m : Mode) (g : Gates) → T (f m g)
at_mg f h m g =
    at 4 (λ l t p r m. f m (record { level = l; throttle_low = t; have_position = p; prearm_ok = r })) h g.level g.throttle_low g.have_position g.prearm_ok m

abbrev all_meg : (Mode → Event → Gates → Bool) → Bool
all_meg f = all_mg (λ m g. list_all (λ e. f m e g) all_events)

at_meg : (f : Mode → Event → Gates → Bool) → T (all_meg f) → (m : Mode) (e : Event) (g : Gates) → T (f m e g)
at_meg f h m e g = at_e (λ e. f m e g) (at_mg (λ m g. list_all (λ e. f m e g) all_events) h m g) e

-- a mode n is left as it was, or entered as a rule says
entered : {P : Type 0} (n : Mode) (f : Mode → Event → Gates → Bool) → T (all_meg (λ m e g. is_mode (on_of m e g) n ⇒ (is_mode m n || f m e g)))
    → (m : Mode) (e : Event) (g : Gates) → (T (f m e g) → P) → on_of m e g ≡ n → (m ≡ n) ⊎ P
entered n f t m e g by h =
    ⊎_map (is_mode→eq m n) by
    (either (is_mode m n) (f m e g)
    (then (is_mode (on_of m e g) n) (is_mode m n || f m e g)
    (at_meg (λ m e g. is_mode (on_of m e g) n ⇒ (is_mode m n || f m e g)) t m e g)
    (eq→is_mode (on_of m e g) n h)))

-- ---- what leads to a mode

-- another mode becomes Armed only from Disarmed by Arm, level, with low throttle and preflight passed
pub armed_from :
    (m : Mode) (e : Event) (g : Gates) → on_of m e g ≡ Armed
    → (m ≡ Armed) ⊎ (((m ≡ Disarmed) × (e ≡ Arm)) × T (g.level && g.throttle_low && g.prearm_ok))
unfolding row_of on_of
armed_from m e g h =
    let ready : Bool = g.level && g.throttle_low && g.prearm_ok in
    entered Armed (λ m e g. is_pair m e Disarmed Arm && (g.level && g.throttle_low && g.prearm_ok)) tt m e g
    (λ t. (is_pair→eq m e Disarmed Arm (and_l (is_pair m e Disarmed Arm) ready t), and_r (is_pair m e Disarmed Arm) ready t))
    h

-- Disarmed only from Armed by RequestDisarm, and from Land by Touchdown
pub disarmed_from :
    (m : Mode) (e : Event) (g : Gates) → on_of m e g ≡ Disarmed
    → (m ≡ Disarmed) ⊎ ((m ≡ Armed) × (e ≡ RequestDisarm)) ⊎ ((m ≡ Land) × (e ≡ Touchdown))
unfolding row_of on_of
disarmed_from m e g h =
    entered Disarmed (λ m e g. is_pair m e Armed RequestDisarm || is_pair m e Land Touchdown) tt m e g
    (λ t.
    ⊎_map (is_pair→eq m e Armed RequestDisarm) (is_pair→eq m e Land Touchdown)
    (either (is_pair m e Armed RequestDisarm) (is_pair m e Land Touchdown) t))
    h

-- Takeoff only from Armed by RequestTakeoff with a position
pub takeoff_from :
    (m : Mode) (e : Event) (g : Gates) → on_of m e g ≡ Takeoff
    → (m ≡ Takeoff) ⊎ (((m ≡ Armed) × (e ≡ RequestTakeoff)) × T g.have_position)
unfolding row_of on_of
takeoff_from m e g h =
    entered Takeoff (λ m e g. is_pair m e Armed RequestTakeoff && g.have_position) tt m e g
    (λ t. (is_pair→eq m e Armed RequestTakeoff (and_l (is_pair m e Armed RequestTakeoff) g.have_position t), and_r (is_pair m e Armed RequestTakeoff) g.have_position t))
    h

-- Terminated only by Terminate
pub only_terminate_ends : (m : Mode) (e : Event) (g : Gates) → on_of m e g ≡ Terminated → (m ≡ Terminated) ⊎ (e ≡ Terminate)
unfolding row_of on_of
only_terminate_ends m e g h = entered Terminated (λ m e g. is_event e Terminate) tt m e g (is_event→eq e Terminate) h

-- Terminate leads there from every mode, and nothing leads out
pub terminate_ends : (m : Mode) (g : Gates) → on_of m Terminate g ≡ Terminated
unfolding row_of on_of
terminate_ends m g = refl

pub terminated_stays : (e : Event) (g : Gates) → on_of Terminated e g ≡ Terminated
unfolding row_of on_of
terminated_stays e g = is_mode→eq _ _ (at_meg (λ m e g. is_mode (on_of Terminated e g) Terminated) tt Terminated e g)

-- ---- what an event can end

-- Land is left by Touchdown and by Terminate alone
pub land_left : (e : Event) (g : Gates) → (on_of Land e g ≡ Land) ⊎ (e ≡ Touchdown) ⊎ (e ≡ Terminate)
unfolding row_of on_of
land_left e g =
    ⊎_map (is_mode→eq (on_of Land e g) Land)
    (λ t. ⊎_map (is_event→eq e Touchdown) (is_event→eq e Terminate) (either (is_event e Touchdown) (is_event e Terminate) t))
    (either (is_mode (on_of Land e g) Land) (is_event e Touchdown || is_event e Terminate)
    (at_meg (λ m e g. is_mode (on_of Land e g) Land || (is_event e Touchdown || is_event e Terminate)) tt Land e g))

-- an airborne mode stays airborne but for Touchdown in Land and for Terminate
pub airborne_left :
    (m : Mode) (e : Event) (g : Gates) → T (is_airborne_of m)
    → T (is_airborne_of (on_of m e g)) ⊎ ((m ≡ Land) × (e ≡ Touchdown)) ⊎ (e ≡ Terminate)
unfolding row_of on_of
airborne_left m e g h =
    ⊎_map (λ u. u)
    (λ t. ⊎_map (is_pair→eq m e Land Touchdown) (is_event→eq e Terminate) (either (is_pair m e Land Touchdown) (is_event e Terminate) t))
    (either (is_airborne_of (on_of m e g)) (is_pair m e Land Touchdown || is_event e Terminate)
    (then (is_airborne_of m) (is_airborne_of (on_of m e g) || (is_pair m e Land Touchdown || is_event e Terminate))
    (at_meg (λ m e g. is_airborne_of m ⇒ (is_airborne_of (on_of m e g) || (is_pair m e Land Touchdown || is_event e Terminate))) tt m e g)
    h))

-- no event lowers the rank but Touchdown in Land
pub rank_kept : (m : Mode) (e : Event) (g : Gates) → (rank_of m ≤ rank_of (on_of m e g)) ⊎ ((m ≡ Land) × (e ≡ Touchdown))
unfolding row_of on_of
rank_kept m e g =
    ⊎_map (leb→le _ _) (is_pair→eq m e Land Touchdown)
    (either (leb (rank_of m) (rank_of (on_of m e g))) (is_pair m e Land Touchdown)
    (at_meg (λ m e g. leb (rank_of m) (rank_of (on_of m e g)) || is_pair m e Land Touchdown) tt m e g))

-- ---- a failsafe

-- "Failsafe takes Takeoff, Loiter and Mission to Rtl with a position and to Land without one, and Rtl to Land."
pub failsafe_leads :
    (g : Gates)
    → (on_of Takeoff Failsafe g ≡ cond g.have_position Rtl Land)
    × (on_of Loiter Failsafe g ≡ cond g.have_position Rtl Land)
    × (on_of Mission Failsafe g ≡ cond g.have_position Rtl Land)
    × (on_of Rtl Failsafe g ≡ Land)
unfolding row_of on_of
failsafe_leads g = (refl, refl, refl, refl)

-- in the air it leads to Rtl or Land
pub failsafe_recovers : (m : Mode) (g : Gates) → T (is_airborne_of m) → (on_of m Failsafe g ≡ Rtl) ⊎ (on_of m Failsafe g ≡ Land)
unfolding row_of on_of
failsafe_recovers m g h =
    ⊎_map (is_mode→eq _ _) (is_mode→eq _ _)
    (either (is_mode (on_of m Failsafe g) Rtl) (is_mode (on_of m Failsafe g) Land)
    (then (is_airborne_of m) (is_mode (on_of m Failsafe g) Rtl || is_mode (on_of m Failsafe g) Land)
    (at_mg (λ m g. is_airborne_of m ⇒ (is_mode (on_of m Failsafe g) Rtl || is_mode (on_of m Failsafe g) Land)) tt m g)
    h))

-- without a position to Land
pub failsafe_blind : (m : Mode) (g : Gates) → T (is_airborne_of m) → g.have_position ≡ false → on_of m Failsafe g ≡ Land
unfolding row_of on_of
failsafe_blind m g h p =
    is_mode→eq _ _
    (then (is_airborne_of m && not g.have_position) (is_mode (on_of m Failsafe g) Land)
    (at_mg (λ m g. (is_airborne_of m && not g.have_position) ⇒ is_mode (on_of m Failsafe g) Land) tt m g)
    (and_i (is_airborne_of m) (not g.have_position) h (rw p tt)))

-- on the ground, in Land and in Terminated it changes nothing
pub failsafe_idle : (m : Mode) (g : Gates) → T (not (is_airborne_of m) || is_mode m Land) → on_of m Failsafe g ≡ m
unfolding row_of on_of
failsafe_idle m g h =
    is_mode→eq _ _
    (then (not (is_airborne_of m) || is_mode m Land) (is_mode (on_of m Failsafe g) m)
    (at_mg (λ m g. (not (is_airborne_of m) || is_mode m Land) ⇒ is_mode (on_of m Failsafe g) m) tt m g)
    h)
