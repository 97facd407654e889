-- A rule over tests, modes and events holds where one test, which antt computes, passes: `at 2 (λ a b m. rule) tt`.
use mathlib.Core.Path.{◌≡◌, refl, subst}
use mathlib.Core.Bool.{Bool, true, false, ◌&&◌, ◌||◌, not}
use mathlib.Core.List.{List, [], ◌∷◌}
use mathlib.Core.Logic.{◌⊎◌, inl, inr}
use Prim.Native.Nat.{ℕ, zero, suc, ◌<◌}
use lib.Dec.{T, eqb→eq}
use lib.ListN.{get_or}
use lib.Ieee.Fits.{and_l, and_r, eq→eqb}
use Rattle.std.specs.Prelude.{slice_get, Some}
use Rattle.std.specs.List.{list_all}
use Rattle.std.proofs.lemmas.Option.{slice_get_within, get_or_from_slice_get}
use Rattle.relay_fsm.specs.declared.Mode.{Mode}
use Rattle.relay_fsm.specs.declared.Mode.TheVariants.{Disarmed, Armed, Takeoff, Loiter, Mission, Land, Rtl, Terminated}
use Rattle.relay_fsm.specs.declared.Event.{Event}
use Rattle.relay_fsm.specs.declared.Event.TheVariants.{Arm, RequestTakeoff, RequestMission, RequestLoiter, RequestRtl, RequestLand, RequestDisarm, ReachedAltitude, ReachedHome, Touchdown, Failsafe, Terminate}
use Rattle.relay_fsm.specs.Mode.{mode_number, modes, mode_at, is_mode}
use Rattle.relay_fsm.specs.Event.{event_number, all_events, event_at, is_event}
use Rattle.relay_fsm.specs.Fsm.{is_pair}

-- ---- tests, and what they tell

infixr 20 ◌⇒◌
abbrev pub ◌⇒◌ : Bool → Bool → Bool
a ⇒ b = not a || b

pub then : (a b : Bool) → T (a ⇒ b) → T a → T b
then true b t h = t
then false b t h = absurd h

pub either : (a b : Bool) → T (a || b) → T a ⊎ T b
either true b t = inl tt
either false b t = inr t

-- ---- modes and events by their numbers

-- a mode's number is read as that mode
pub mode_at_number : (m : Mode) → mode_at (mode_number m) ≡ Some m
unfolding mode_at
mode_at_number Disarmed = refl
mode_at_number Armed = refl
mode_at_number Takeoff = refl
mode_at_number Loiter = refl
mode_at_number Mission = refl
mode_at_number Land = refl
mode_at_number Rtl = refl
mode_at_number Terminated = refl

pub mode_back : (m : Mode) → get_or modes (mode_number m) Disarmed ≡ m
unfolding mode_at
mode_back m = get_or_from_slice_get modes (mode_number m) m Disarmed (mode_at_number m)

pub mode_number_below : (m : Mode) → mode_number m < 8
unfolding mode_at
mode_number_below m = slice_get_within modes (mode_number m) m (mode_at_number m)

pub is_mode→eq : (m n : Mode) → T (is_mode m n) → m ≡ n
is_mode→eq m n t =
    let e : mode_number m ≡ mode_number n = eqb→eq (mode_number m) (mode_number n) t in
    cc (mode_at_number m, mode_at_number n)

pub eq→is_mode : (m n : Mode) → m ≡ n → T (is_mode m n)
eq→is_mode m n e = eq→eqb (cc)

-- an event's number is read as that event
pub event_at_number : (e : Event) → event_at (event_number e) ≡ Some e
unfolding event_at
event_at_number Arm = refl
event_at_number RequestTakeoff = refl
event_at_number RequestMission = refl
event_at_number RequestLoiter = refl
event_at_number RequestRtl = refl
event_at_number RequestLand = refl
event_at_number RequestDisarm = refl
event_at_number ReachedAltitude = refl
event_at_number ReachedHome = refl
event_at_number Touchdown = refl
event_at_number Failsafe = refl
event_at_number Terminate = refl

pub is_event→eq : (e f : Event) → T (is_event e f) → e ≡ f
is_event→eq e f t =
    let p : event_number e ≡ event_number f = eqb→eq (event_number e) (event_number f) t in
    cc (event_at_number e, event_at_number f)

pub is_pair→eq : (m : Mode) (e : Event) (n : Mode) (f : Event) → T (is_pair m e n f) → (m ≡ n) × (e ≡ f)
is_pair→eq m e n f t = (is_mode→eq m n (and_r (is_event e f) (is_mode m n) t), is_event→eq e f (and_l (is_event e f) (is_mode m n) t))

-- ---- rules

module _ {A : Type 0} where
  -- every entry of a list passes
  at_place : (f : A → Bool) (xs : List A) → T (list_all f xs) → (k : ℕ) (x : A) → slice_get xs k ≡ Some x → T (f x)
  at_place f [] t k x e = cc
  at_place f (y ∷ ys) t zero x e = let p : y ≡ x = cc in subst (λ z. T (f z)) p (and_l (f y) (list_all f ys) t)
  at_place f (y ∷ ys) t (suc k) x e = at_place f ys (and_r (f y) (list_all f ys) t) k x e

pub at_m : (f : Mode → Bool) → T (list_all f modes) → (m : Mode) → T (f m)
unfolding mode_at
at_m f t m = at_place f modes t (mode_number m) m (mode_at_number m)

pub at_e : (f : Event → Bool) → T (list_all f all_events) → (e : Event) → T (f e)
unfolding event_at
at_e f t e = at_place f all_events t (event_number e) e (event_at_number e)

-- a rule over n tests and a mode: whether it passes in every case, and that it holds
abbrev pub Rule : ℕ → Type 0
Rule zero = Mode → Bool
Rule (suc n) = Bool → Rule n

abbrev pub all : (n : ℕ) → Rule n → Bool
all zero f = list_all f modes
all (suc n) f = all n (f true) && all n (f false)

abbrev pub Holds : (n : ℕ) → Rule n → Type 0
Holds zero f = (m : Mode) → T (f m)
Holds (suc n) f = (a : Bool) → Holds n (f a)

pub at : (n : ℕ) (f : Rule n) → T (all n f) → Holds n f
at zero f t = at_m f t
at (suc n) f t =
    λ a.
    elim a as (λ b. Holds n (f b)) [
      | true ↦ at n (f true) (and_l (all n (f true)) (all n (f false)) t)
      | false ↦ at n (f false) (and_r (all n (f true)) (all n (f false)) t)
    ]
