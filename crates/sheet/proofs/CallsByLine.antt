-- Many lines are a list of calls by line: their states and answers are those of the list that demand 3 speaks of.
use Prim.Native.Nat.{ℕ, ◌*◌, ◌≤◌}
use native.Mathlib.Omega.{arith}
use mathlib.Core.List.{List, [], ◌∷◌, ◌++◌, map}
use mathlib.Core.Path.{◌≡◌, refl, ap, ◌∙◌}
use lib.ListN.{length}
use Rattle.columns.specs.Field.{field_width}
use Rattle.falcon_core.specs.declared.supervisor.Supervisor.{Supervisor}
use Rattle.falcon_core.specs.declared.supervisor.Answered.{Answered}
use Rattle.requests.specs.Kinds.{asked_step}
use Rattle.requests.specs.Parse.{line_asks}
use Rattle.requests.specs.ByLine.{most_needed, reply_of}
use Rattle.requests.proofs.Buffer.{needs_most, full_step}
use Rattle.call_lists.specs.Lists.{Call, by_line, call_step, Place, place_after, next_place_of, place_from, answers_from}
use Rattle.sheet.specs.Lines.{newline, joined_lines}
use Rattle.sheet.specs.Many.{after_line, reply_line, states_after, replies}

-- the calls of several lines, each with this answer buffer
abbrev pub calls_of : List ℕ → List (List ℕ) → List Call
calls_of out ls = map (λ (l : List ℕ). by_line l out) ls

-- a buffer with room for the answer to a line of any kind
module _ (out : List ℕ) (room : field_width * most_needed ≤ length out) where
  one_call : (s : Supervisor) (l : List ℕ) → asked_step s (line_asks l) ≡ call_step s (by_line l out)
  unfolding call_step
  one_call s l = full_step s l out (omega (arith, needs_most l))

  one_state : (p : Place) (l : List ℕ) → after_line p.supervisor l ≡ (next_place_of p (by_line l out)).supervisor
  unfolding after_line next_place_of place_after
  one_state p l = ap (λ (a : Answered). a.supervisor) (one_call p.supervisor l)

  -- the state after the lines is the one at the place after the calls
  pub lines_are_calls : (p : Place) (ls : List (List ℕ)) → states_after p.supervisor ls ≡ (place_from p (calls_of out ls)).supervisor
  unfolding states_after place_from
  lines_are_calls p [] = refl
  lines_are_calls p (l ∷ ls) =
      ap (λ (s : Supervisor). states_after s ls) (one_state p l) ∙ lines_are_calls (next_place_of p (by_line l out)) ls

  -- the answers to the lines are the answers to the calls, each on a line
  pub replies_are_answers : (p : Place) (ls : List (List ℕ)) → replies p.supervisor ls ≡ joined_lines (map reply_of (answers_from p (calls_of out ls)))
  unfolding replies answers_from joined_lines reply_line
  replies_are_answers p [] = refl
  replies_are_answers p (l ∷ ls) =
      ap (λ (a : Answered). reply_of a ++ (newline ∷ replies (after_line p.supervisor l) ls)) (one_call p.supervisor l)
      ∙ ap (λ (s : Supervisor). reply_of (call_step p.supervisor (by_line l out)) ++ (newline ∷ replies s ls)) (one_state p l)
      ∙ ap (λ (t : List ℕ). reply_of (call_step p.supervisor (by_line l out)) ++ (newline ∷ t)) (replies_are_answers (next_place_of p (by_line l out)) ls)
