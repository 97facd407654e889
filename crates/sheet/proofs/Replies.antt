-- Of many lines as many are answered into one buffer as fit.
use Prim.Native.Nat.{ℕ, min, ◌+◌, ◌-◌, ◌*◌, ◌≤◌, ◌<◌}
use native.Mathlib.Nat.{zero-add}
use native.Mathlib.Omega.{arith}
use mathlib.Core.Path.{◌≡◌, refl, sym, ap, ◌∙◌}
use mathlib.Core.List.{List, [], ◌∷◌, ◌++◌}
use lib.ListN.{length, take, drop, length-append}
use lib.Seq.{length-take-le}
use Rattle.std.specs.Prelude.{None, Some}
use Rattle.falcon_core.specs.declared.supervisor.Supervisor.{Supervisor}
use Rattle.columns.specs.Field.{field_width, put}
use Rattle.columns.specs.Line.{line_of}
use Rattle.columns.proofs.Writing.{length_line}
use Rattle.requests.specs.Kinds.{asked_step}
use Rattle.requests.specs.Parse.{line_asks}
use Rattle.requests.specs.ByLine.{need_of, reply_numbers, reply_of}
use Rattle.requests.proofs.Buffer.{reply_fits}
use Rattle.sheet.specs.declared.many.Progress.{Progress}
use Rattle.sheet.specs.Lines.{newline, whole_lines, joined_lines, line_end, last_line}
use Rattle.sheet.specs.Many.{after_line, reply_line, states_after, replies, fitting, EndsFitting, progress_of, answers_over}
use Rattle.sheet.proofs.LinesAgain.{used_most, line_at, line_none}
use Rattle.sheet.proofs.LinesTurns.{AfterLines}
use Rattle.sheet.proofs.LinesFit.{fit_full, fit_more, fit_none, fit_prefix, fit_room}

-- the numbers of a reply: they have room where the line's need has, and as bytes they are the reply
module _ (s : Supervisor) (l ns : List ℕ) (is : ns ≡ reply_numbers (asked_step s (line_asks l))) where
  pub reply_room : field_width * length ns ≤ need_of l
  unfolding reply_of
  reply_room = omega (arith, ap (λ (m : List ℕ). length m) is, length_line (reply_numbers (asked_step s (line_asks l))), reply_fits s l)

  pub reply_bytes : line_of ns ≡ reply_line s l
  unfolding reply_line reply_of
  reply_bytes = ap line_of is

  pub reply_long : field_width * length ns ≡ length (reply_line s l)
  reply_long = sym (length_line ns) ∙ ap (λ (m : List ℕ). length m) reply_bytes

-- ---- what `next_fitting` answers

module _ (input : List ℕ) (from room : ℕ) where
  -- no newline is left
  pub ends_none : length input ≤ from + line_end (drop from input) → EndsFitting input from room None
  ends_none h =
      record {
        found = tt;
        fits = tt;
        none = λ s. ap (λ (ls : List (List ℕ)). fitting s ls room) (line_none input from _ refl h) ∙ fit_none s room;
      }

  module _ (e : ℕ) (h : e < length input) (found : e ≡ from + line_end (drop from input)) where
    -- the line has too little room
    pub ends_full : room ≤ need_of (take (e - from) (drop from input)) → EndsFitting input from room None
    ends_full full =
        record {
          found = tt;
          fits = tt;
          none = λ s.
              ap (λ (ls : List (List ℕ)). fitting s ls room) (line_at input from e found h)
              ∙ fit_full s (take (e - from) (drop from input)) (whole_lines (drop (e + 1) input)) room (omega arith);
        }

    -- it fits
    pub ends_fitting : need_of (take (e - from) (drop from input)) < room → EndsFitting input from room (Some e)
    ends_fitting fits = record { found = (h, found); fits = omega arith; none = tt }

-- ---- what is read and written is no more than there is

pub progress_written : (s : Supervisor) (ls : List (List ℕ)) (input : List ℕ) (room : ℕ) → (progress_of input s (fitting s ls room)).written ≤ room
unfolding progress_of
progress_written s ls input room = fit_room s ls room

pub progress_used : (s : Supervisor) (ls : List (List ℕ)) (input : List ℕ) → (progress_of input s ls).used ≤ length input
unfolding progress_of
progress_used s ls input = omega arith

-- of lines that a newline ends all bytes count
pub progress_read :
    (s : Supervisor) (input : List ℕ) (room : ℕ) (p : Progress) →
    p ≡ progress_of input s (fitting s (whole_lines input) room) →
    p.used ≡ length (joined_lines (fitting s (whole_lines input) room))
unfolding progress_of
progress_read s input room p is =
    let ls : List (List ℕ) = fitting s (whole_lines input) room in
    omega (arith, ap (λ (q : Progress). q.used) is, used_most (length ls) input, ap (λ (ms : List (List ℕ)). length (joined_lines ms)) (fit_prefix s (whole_lines input) room))

-- ---- what `answer_lines` answers, from the last turn of its loop

module _ (s₀ : Supervisor) (input d : List ℕ) (s : Supervisor) (used at k : ℕ) (out : List ℕ)
    (g : AfterLines s₀ input d s used at k out) (fits : take k (whole_lines input) ≡ fitting s₀ (whole_lines input) (length d)) where
  pub lines_progress : ◌≡◌ {A = Progress} (record { supervisor = s; used = used; written = at; lines = k }) (progress_of input s₀ (fitting s₀ (whole_lines input) (length d)))
  unfolding progress_of
  lines_progress =
      let a = g.state in
      let w = g.written in
      let n : k ≡ length (take k (whole_lines input)) = sym (length-take-le k (whole_lines input) g.most) in
      let r : used ≡ min (length (joined_lines (take k (whole_lines input)))) (length input) = omega (arith, g.read, used_most k input) in
      let here : ◌≡◌ {A = Progress} (record { supervisor = s; used = used; written = at; lines = k }) (progress_of input s₀ (take k (whole_lines input))) = cc in
      here ∙ ap (progress_of input s₀) fits

  pub lines_buffer : out ≡ answers_over s₀ (fitting s₀ (whole_lines input) (length d)) d
  unfolding answers_over
  lines_buffer =
      g.buffer
      ∙ ap (λ (n : ℕ). replies s₀ (take k (whole_lines input)) ++ drop n d) g.written
      ∙ ap (λ (ls : List (List ℕ)). answers_over s₀ ls d) fits

-- ---- what `answer_last` answers

-- no line is answered
pub over_none : (s : Supervisor) (ls : List (List ℕ)) (input out : List ℕ) (p : Progress) → p ≡ progress_of [] s [] → ls ≡ []
    → (p ≡ progress_of input s ls) × (out ≡ answers_over s ls out)
unfolding answers_over replies progress_of joined_lines
over_none s ls input out p is e =
    let z : min 0 (length input) ≡ 0 = omega arith in
    let none : progress_of [] s [] ≡ progress_of input s [] = cc in (
      is ∙ none ∙ ap (progress_of input s) (sym e),
      ap (λ (ms : List (List ℕ)). answers_over s ms out) (sym e),
    )

pub last_none : (s : Supervisor) (input : List ℕ) (room : ℕ) → length input ≡ 0 → fitting s (last_line input) room ≡ []
unfolding last_line
last_none s [] room e = fit_none s room
last_none s (b ∷ input) room e = absurd (omega arith)

pub last_short : (s : Supervisor) (input : List ℕ) (room : ℕ) → room ≤ need_of input → fitting s (last_line input) room ≡ []
unfolding last_line
last_short s [] room h = fit_none s room
last_short s (b ∷ input) room h = fit_full s (b ∷ input) [] room (omega arith)

pub last_one : (s : Supervisor) (input : List ℕ) (room : ℕ) → (length input ≡ 0 → ⊥) → need_of input < room → fitting s (last_line input) room ≡ input ∷ []
unfolding last_line
last_one s [] room q h = absurd (q refl)
last_one s (b ∷ input) room q h =
    fit_more s (b ∷ input) [] room (omega arith)
    ∙ ap (λ (ls : List (List ℕ)). (b ∷ input) ∷ ls) (fit_none (after_line s (b ∷ input)) (room - (length (reply_line s (b ∷ input)) + 1)))

pub last_answer : (s : Supervisor) (input out next : List ℕ) (t : Supervisor) (n : ℕ) → (length input ≡ 0 → ⊥) → need_of input < length out
    → next ≡ put out 0 (reply_line s input ++ (newline ∷ []))
    → t ≡ after_line s input
    → n ≡ length (reply_line s input) + 1
    → (◌≡◌ {A = Progress} (record { supervisor = t; used = length input; written = n; lines = 1 }) (progress_of input s (fitting s (last_line input) (length out))))
    × (next ≡ answers_over s (fitting s (last_line input) (length out)) out)
unfolding put replies answers_over progress_of states_after joined_lines
last_answer s input out next t n q h e is wide =
    let one : fitting s (last_line input) (length out) ≡ input ∷ [] = last_one s input (length out) q h in
    let long : n ≡ length (replies s (input ∷ [])) = wide ∙ sym (length-append (reply_line s input) (newline ∷ [])) in
    let used : length input ≡ min (length (joined_lines (input ∷ []))) (length input) = omega (arith, length-append input (newline ∷ [])) in
    let here : ◌≡◌ {A = Progress} (record { supervisor = t; used = length input; written = n; lines = 1 }) (progress_of input s (input ∷ [])) = cc in (
      here ∙ ap (progress_of input s) (sym one),
      e
          ∙ ap (λ (n : ℕ). (reply_line s input ++ (newline ∷ [])) ++ drop n out) (zero-add (length (reply_line s input ++ (newline ∷ []))))
          ∙ ap (λ (ls : List (List ℕ)). answers_over s ls out) (sym one),
    )
