-- Many lines: the state after them and their answers, whole or read in parts, and as many as fit one buffer.
use Rattle.std.specs.Prelude.{ℕ, min, ◌+◌, ◌-◌, ◌≤◌, ◌<◌, ◌≡◌, cond, ltb, List, [], ◌∷◌, ◌++◌, length, take, drop, Option, IfSome, IfNone}
use Rattle.falcon_state.specs.declared.point.Point.{Point}
use Rattle.falcon_core.specs.declared.flown.Flown.{Flown}
use Rattle.falcon_core.specs.declared.supervisor.Supervisor.{Supervisor}
use Rattle.sheet.specs.declared.many.Progress.{Progress}
use Rattle.sheet.specs.Lines.{newline, whole_lines, joined_lines, line_begun, last_line, line_end, kept_width}
use Rattle.requests.specs.Kinds.{asked_step}
use Rattle.requests.specs.ByLine.{need_of, reply_of}
use Rattle.requests.specs.Parse.{line_asks}

-- the state after a line
unfoldable pub after_line : Supervisor → List ℕ → Supervisor
after_line s l = (asked_step s (line_asks l)).supervisor

-- the bytes of a line's answer
unfoldable pub reply_line : Supervisor → List ℕ → List ℕ
reply_line s l = reply_of (asked_step s (line_asks l))

-- the state after several lines
unfoldable pub states_after : Supervisor → List (List ℕ) → Supervisor
states_after s [] = s
states_after s (l ∷ ls) = states_after (after_line s l) ls

-- the program "answers each line with a line"
unfoldable pub replies : Supervisor → List (List ℕ) → List ℕ
replies s [] = []
replies s (l ∷ ls) = reply_line s l ++ (newline ∷ replies (after_line s l) ls)

-- the answers to an input that is read in parts, behind the bytes kept of a line begun
unfoldable pub stream : Supervisor → List ℕ → List (List ℕ) → List ℕ
stream s p [] = replies s (last_line p)
stream s p (c ∷ cs) = replies s (whole_lines (p ++ c)) ++ stream (states_after s (whole_lines (p ++ c))) (take kept_width (line_begun (p ++ c))) cs

-- the first of these lines, as long as there is room for what the next one needs and a newline
unfoldable pub fitting : Supervisor → List (List ℕ) → ℕ → List (List ℕ)
fitting s [] room = []
fitting s (l ∷ ls) room = cond (ltb room (need_of l + 1)) [] (l ∷ fitting (after_line s l) ls (room - (length (reply_line s l) + 1)))

-- the end of the line at `from`, where a newline ends it and its answer fits so many bytes; else no line is answered there
pub record EndsFitting (input : List ℕ) (from room : ℕ) (end : Option ℕ) : Type 0 where
  pub found : IfSome end (λ e. (e < length input) × (e ≡ from + line_end (drop from input)))
  pub fits : IfSome end (λ e. need_of (take (e - from) (drop from input)) + 1 ≤ room)
  pub none : IfNone end ((s : Supervisor) → fitting s (whole_lines (drop from input)) room ≡ [])

-- the state of what ticks, reports and commands change, and the waypoints
abbrev pub state_of : Flown → List Point → Supervisor
state_of w ps = record { flight = w.flight; waypoints = ps; opened = w.opened; report_due = w.report_due; totals = w.totals }

-- what is answered where these are the first lines of an input; of a last line without newline its bytes alone count
unfoldable pub progress_of : List ℕ → Supervisor → List (List ℕ) → Progress
progress_of input s ls =
    record {
      supervisor = states_after s ls;
      used = min (length (joined_lines ls)) (length input);
      written = length (replies s ls);
      lines = length ls;
    }

-- a buffer with the answers of several lines at its start, and its other bytes untouched
unfoldable pub answers_over : Supervisor → List (List ℕ) → List ℕ → List ℕ
answers_over s ls out = replies s ls ++ drop (length (replies s ls)) out
