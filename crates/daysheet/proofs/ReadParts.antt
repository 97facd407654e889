-- After each read the state is that after the whole lines of all that was read, and the bytes at hand are those kept of the line begun.
use Prim.Native.Nat.{ℕ, ◌≤◌}
use native.Mathlib.Nat.{le_refl}
use mathlib.Core.Path.{◌≡◌, sym, ap, ◌∙◌}
use mathlib.Core.List.{List, [], ◌∷◌, ◌++◌, append-nil}
use lib.ListN.{length, take, drop, take-append-drop}
use lib.Seq.{take_at, take-nil, take-take}
use Rattle.std.specs.List.{concat}
use Rattle.std.specs.Prelude.{Result, Ok, Err, IfOk}
use Rattle.std.specs.Result.{result_unwrap_or}
use Rattle.std.proofs.lemmas.List.Folds.{concat-append}
use Rattle.falcon_core.specs.declared.supervisor.Supervisor.{Supervisor}
use Rattle.falcon_core.specs.Calls.{unopened}
use Rattle.sheet.specs.Lines.{kept_width, kept_bytes_of, whole_lines, joined_lines, line_begun, last_line, lines_of}
use Rattle.sheet.specs.Many.{states_after, replies}
use Rattle.sheet.proofs.LinesAgain.{bare_take, begun_bare}
use Rattle.sheet.proofs.LinesTurns.{kept_begun}
use Rattle.sheet.proofs.LinesCut.{replies_append, last_kept, states_part, kept_part}
use Rattle.daysheet.specs.Reader.{ReadsPart, ReadsAll}

-- where the bytes at hand end after a read: where they ended before it, if it failed
pub read_end : {E : Type 0} (r : Result ℕ E) (have room : ℕ) → have ≤ room → IfOk r (λ (end : ℕ). (have ≤ end) × (end ≤ room))
    → (have ≤ result_unwrap_or r have) × (result_unwrap_or r have ≤ room)
read_end (Ok end) have room h is = is
read_end (Err e) have room h is = (le_refl have, h)

-- a turn: bytes read behind those at hand, the state after the whole lines, and what `keep` leaves
module _ (s : Supervisor) (before buf : List ℕ) (have end : ℕ) (more : have ≤ end) (same : take have buf ≡ take have before) where
  parted : take have before ++ drop have (take end buf) ≡ take end buf
  parted =
      ap (λ (p : List ℕ). p ++ drop have (take end buf)) (sym same ∙ sym (take-take have end buf more))
      ∙ take-append-drop have (take end buf)

  pub turn_part : (s' : Supervisor) (used n : ℕ) (after : List ℕ)
      → s' ≡ states_after s (whole_lines (take end buf))
      → used ≡ length (joined_lines (whole_lines (take end buf)))
      → n ≡ length (kept_bytes_of buf used end)
      → after ≡ kept_bytes_of buf used end ++ drop (length (kept_bytes_of buf used end)) buf
      → ReadsPart s (take have before) s' (take n after)
  turn_part s' used n after state is-used is-n is-after =
      record {
        part = drop have (take end buf);
        state = state ∙ ap (λ (t : List ℕ). states_after s (whole_lines t)) (sym parted);
        begun =
            ap (take n) is-after
            ∙ take_at (kept_bytes_of buf used end) (drop (length (kept_bytes_of buf used end)) buf) n (sym is-n)
            ∙ kept_begun buf used end is-used
            ∙ ap (λ (t : List ℕ). take kept_width (line_begun t)) (sym parted);
      }

-- before the first read
pub reads_none : (s : Supervisor) (p : List ℕ) → s ≡ unopened → p ≡ [] → ReadsAll s p
unfolding whole_lines joined_lines line_begun states_after
reads_none s p is none = record { parts = []; state = is; begun = none ∙ sym (take-nil kept_width) }

-- a part more
pub reads_more : (s : Supervisor) (p : List ℕ) (s' : Supervisor) (p' : List ℕ) → ReadsAll s p → ReadsPart s p s' p' → ReadsAll s' p'
reads_more s p s' p' g r =
    let q : List ℕ = concat g.parts in
    let c : List ℕ = r.part in
    let all : q ++ c ≡ concat (g.parts ++ (c ∷ [])) = sym (concat-append g.parts (c ∷ []) ∙ ap (λ (t : List ℕ). q ++ t) (append-nil c)) in
    record {
      parts = g.parts ++ (c ∷ []);
      state =
          r.state
          ∙ ap (λ (t : Supervisor). states_after t (whole_lines (p ++ c))) g.state
          ∙ ap (λ (t : List ℕ). states_after (states_after unopened (whole_lines q)) (whole_lines (t ++ c))) g.begun
          ∙ states_part unopened q c
          ∙ ap (λ (t : List ℕ). states_after unopened (whole_lines t)) all;
      begun =
          r.begun
          ∙ ap (λ (t : List ℕ). take kept_width (line_begun (t ++ c))) g.begun
          ∙ kept_part q c
          ∙ ap (λ (t : List ℕ). take kept_width (line_begun t)) all;
    }

-- the bytes kept hold no newline
pub reads_bare : (s : Supervisor) (p : List ℕ) → ReadsAll s p → whole_lines p ≡ []
reads_bare s p g = ap whole_lines g.begun ∙ bare_take kept_width (line_begun (concat g.parts)) (begun_bare (concat g.parts))

-- what `finish` answers then completes the answers to all that was read
pub reads_finished : (s : Supervisor) (p : List ℕ) → (g : ReadsAll s p)
    → replies unopened (lines_of (concat g.parts)) ≡ replies unopened (whole_lines (concat g.parts)) ++ replies s (last_line p)
unfolding lines_of
reads_finished s p g =
    let q : List ℕ = concat g.parts in
    replies_append unopened (whole_lines q) (last_line (line_begun q))
    ∙ ap (λ (t : Supervisor). replies unopened (whole_lines q) ++ replies t (last_line (line_begun q))) (sym g.state)
    ∙ ap (λ (r : List ℕ). replies unopened (whole_lines q) ++ r) (sym (last_kept s (line_begun q)) ∙ ap (λ (t : List ℕ). replies s (last_line t)) (sym g.begun))
