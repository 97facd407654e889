-- The lines whose answers fit so many bytes are the first ones, as long as there is room, and their answers are no longer than it.
use Prim.Native.Nat.{ℕ, suc, ◌+◌, ◌-◌, ◌≤◌, ◌<◌}
use native.Mathlib.Omega.{arith}
use native.Mathlib.Decide.{dec_lt}
use mathlib.Core.Path.{◌≡◌, refl, sym, ap, ◌∙◌}
use mathlib.Core.List.{List, [], ◌∷◌, ◌++◌}
use lib.ListN.{length, take, length-append}
use borrow.Author.Tests.{lt-ltb, le-ltb}
use Rattle.falcon_core.specs.declared.supervisor.Supervisor.{Supervisor}
use Rattle.requests.specs.ByLine.{need_of}
use Rattle.requests.proofs.Buffer.{reply_fits}
use Rattle.sheet.specs.Lines.{newline}
use Rattle.sheet.specs.Many.{after_line, reply_line, states_after, replies, fitting}

-- no room for the next line
pub fit_full : (s : Supervisor) (l : List ℕ) (ls : List (List ℕ)) (room : ℕ) → room < need_of l + 1 → fitting s (l ∷ ls) room ≡ []
unfolding fitting
fit_full s l ls room h = rw (lt-ltb room (need_of l + 1) h)

-- room for the next line
pub fit_more :
    (s : Supervisor) (l : List ℕ) (ls : List (List ℕ)) (room : ℕ)
    → need_of l + 1 ≤ room
    → fitting s (l ∷ ls) room ≡ l ∷ fitting (after_line s l) ls (room - (length (reply_line s l) + 1))
unfolding fitting
fit_more s l ls room h = rw (le-ltb room (need_of l + 1) h)

pub fit_none : (s : Supervisor) (room : ℕ) → fitting s [] room ≡ []
unfolding fitting
fit_none s room = refl

-- a reply is no longer than what its line needs
pub line_fits : (s : Supervisor) (l : List ℕ) → length (reply_line s l) ≤ need_of l
unfolding reply_line
line_fits s l = reply_fits s l

-- what fits is no longer than the room
pub fit_room : (s : Supervisor) (ls : List (List ℕ)) (room : ℕ) → length (replies s (fitting s ls room)) ≤ room
unfolding replies
fit_room s [] room = rw (fit_none s room) (omega arith)
fit_room s (l ∷ ls) room =
    elim (dec_lt room (need_of l + 1)) [
      | yes h ↦ rw (fit_full s l ls room h) (omega arith)
      | no q ↦
          let h : need_of l + 1 ≤ room = omega arith in
          let r = room - (length (reply_line s l) + 1) in
          rw (fit_more s l ls room h)
          (omega (arith, line_fits s l, fit_room (after_line s l) ls r, length-append (reply_line s l) (newline ∷ replies (after_line s l) (fitting (after_line s l) ls r))))
    ]

-- what fits are the first of the lines
pub fit_prefix : (s : Supervisor) (ls : List (List ℕ)) (room : ℕ) → take (length (fitting s ls room)) ls ≡ fitting s ls room
fit_prefix s [] room = rw (fit_none s room) refl
fit_prefix s (l ∷ ls) room =
    elim (dec_lt room (need_of l + 1)) [
      | yes h ↦ rw (fit_full s l ls room h) refl
      | no q ↦
          let h : need_of l + 1 ≤ room = omega arith in
          rw (fit_more s l ls room h)
          (ap (λ (t : List (List ℕ)). l ∷ t) (fit_prefix (after_line s l) ls (room - (length (reply_line s l) + 1))))
    ]

-- where not all fit, none of those behind them does
pub fit_stopped : (s : Supervisor) (ls ms : List (List ℕ)) (room : ℕ) → length (fitting s ls room) < length ls
    → fitting s (ls ++ ms) room ≡ fitting s ls room
fit_stopped s [] ms room h = absurd (omega arith)
fit_stopped s (l ∷ ls) ms room h =
    elim (dec_lt room (need_of l + 1)) [
      | yes q ↦ fit_full s l (ls ++ ms) room q ∙ sym (fit_full s l ls room q)
      | no q ↦
          let n : need_of l + 1 ≤ room = omega arith in
          let r = room - (length (reply_line s l) + 1) in
          let e : length (fitting s (l ∷ ls) room) ≡ suc (length (fitting (after_line s l) ls r)) = ap length (fit_more s l ls room n) in
          fit_more s l (ls ++ ms) room n
          ∙ ap (λ (t : List (List ℕ)). l ∷ t) (fit_stopped (after_line s l) ls ms r (omega arith))
          ∙ sym (fit_more s l ls room n)
    ]

-- where all fit, those behind them have the room that is left
pub fit_whole : (s : Supervisor) (ls ms : List (List ℕ)) (room : ℕ) → length ls ≤ length (fitting s ls room)
    → fitting s (ls ++ ms) room ≡ ls ++ fitting (states_after s ls) ms (room - length (replies s ls))
unfolding replies states_after
fit_whole s [] ms room h = let z : room ≡ room - 0 = omega arith in ap (fitting s ms) z
fit_whole s (l ∷ ls) ms room h =
    elim (dec_lt room (need_of l + 1)) [
      | yes q ↦ absurd (omega (arith, ap length (fit_full s l ls room q)))
      | no q ↦
          let n : need_of l + 1 ≤ room = omega arith in
          let r = room - (length (reply_line s l) + 1) in
          let e : length (fitting s (l ∷ ls) room) ≡ suc (length (fitting (after_line s l) ls r)) = ap length (fit_more s l ls room n) in
          let behind : List ℕ = replies (after_line s l) ls in
          let z : r - length behind ≡ room - length (reply_line s l ++ (newline ∷ behind)) = omega (arith, length-append (reply_line s l) (newline ∷ behind)) in
          fit_more s l (ls ++ ms) room n
          ∙ ap (λ (t : List (List ℕ)). l ∷ t) (fit_whole (after_line s l) ls ms r (omega arith))
          ∙ ap (λ (m : ℕ). l ∷ (ls ++ fitting (states_after (after_line s l) ls) ms m)) z
    ]
