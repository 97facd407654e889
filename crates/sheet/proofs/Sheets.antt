-- A sheet's whole lines answered into one buffer, and then its last line, are its lines answered, as many as fit.
use Prim.Native.Nat.{ℕ, zero, suc, min, ◌+◌, ◌-◌, ◌≤◌}
use native.Mathlib.Omega.{arith}
use mathlib.Core.Bool.{true, false}
use mathlib.Core.Path.{◌≡◌, refl, sym, ap, ◌∙◌}
use Rattle.std.specs.Prelude.{is_some}
use mathlib.Core.List.{List, [], ◌∷◌, ◌++◌}
use lib.ListN.{length, take, drop, length-append, length-take, length-drop}
use lib.Seq.{take_all, take-nil}
use Rattle.falcon_core.specs.declared.supervisor.Supervisor.{Supervisor}
use Rattle.sheet.specs.declared.many.Progress.{Progress}
use Rattle.std.proofs.lemmas.List.{take_rest}
use Rattle.columns.specs.Field.{put}
use Rattle.sheet.specs.Lines.{newline, whole_lines, joined_lines, line_begun, newline_at, last_line, lines_of}
use Rattle.sheet.specs.Many.{states_after, replies, fitting, progress_of, answers_over}
use Rattle.sheet.proofs.LinesAgain.{joined_append, joined_begun, lines_most, whole_off, line_at, line_none}
use Rattle.sheet.proofs.LinesCut.{replies_append, states_append}
use Rattle.sheet.proofs.LinesTurns.{newline_left, no_newline_left, placed_buffer, more_left, none_left}
use Rattle.sheet.proofs.LinesFit.{fit_prefix, fit_room, fit_stopped, fit_whole}
use Rattle.sheet.proofs.Replies.{progress_read}
use Rattle.columns.proofs.Writing.{put_seam}

-- what `answer_last` answers, and the buffer after it
abbrev last_of : Supervisor → List ℕ → List ℕ → Progress
last_of s input out = progress_of input s (fitting s (last_line input) (length out))

abbrev last_over : Supervisor → List ℕ → List ℕ → List ℕ
last_over s input out = answers_over s (fitting s (last_line input) (length out)) out

module _ (s₀ : Supervisor) (input d b : List ℕ) (p : Progress)
    (is : p ≡ progress_of input s₀ (fitting s₀ (whole_lines input) (length d))) (buffer : b ≡ answers_over s₀ (fitting s₀ (whole_lines input) (length d)) d) where
  -- how many lines are answered
  count : ℕ
  count = length (fitting s₀ (whole_lines input) (length d))

  -- what is left to read has the lines that are not
  left : whole_lines (drop p.used input) ≡ drop count (whole_lines input)
  unfolding count
  left =
      ap (λ (n : ℕ). whole_lines (drop n input))
      (progress_read s₀ input (length d) p is ∙ ap (λ (ls : List (List ℕ)). length (joined_lines ls)) (sym (fit_prefix s₀ (whole_lines input) (length d))))
      ∙ whole_off count input

  -- a newline is left: a line had too little room, and the last line comes behind it
  module _ (h : is_some (newline_at input p.used) ≡ true) where
    same : fitting s₀ (lines_of input) (length d) ≡ fitting s₀ (whole_lines input) (length d)
    unfolding lines_of count
    same =
        fit_stopped s₀ (whole_lines input) (last_line (line_begun input)) (length d)
        (more_left (whole_lines input) count _ _ (sym left ∙ line_at input p.used _ refl (newline_left input p.used h)))

    pub sheet_full : (p ≡ progress_of input s₀ (fitting s₀ (lines_of input) (length d))) × (b ≡ answers_over s₀ (fitting s₀ (lines_of input) (length d)) d)
    sheet_full = (is ∙ ap (progress_of input s₀) (sym same), buffer ∙ ap (λ (ls : List (List ℕ)). answers_over s₀ ls d) (sym same))

  -- none is left: every whole line is answered
  module _ (h : is_some (newline_at input p.used) ≡ false) (q : Progress) (last : List ℕ)
      (last-is : q ≡ last_of p.supervisor (take (length input - p.used) (drop p.used input)) (take (length b - p.written) (drop p.written b)))
      (placed : last ≡ last_over p.supervisor (take (length input - p.used) (drop p.used input)) (take (length b - p.written) (drop p.written b))) where
    most : length (whole_lines input) ≤ count
    most = none_left (whole_lines input) count (sym left ∙ line_none input p.used _ refl (no_newline_left input p.used h))

    all : fitting s₀ (whole_lines input) (length d) ≡ whole_lines input
    unfolding count
    all = sym (fit_prefix s₀ (whole_lines input) (length d)) ∙ take_all count (whole_lines input) most

    whole_progress : p ≡ progress_of input s₀ (whole_lines input)
    whole_progress = is ∙ ap (progress_of input s₀) all

    whole_read : p.used ≡ length (joined_lines (whole_lines input))
    whole_read = progress_read s₀ input (length d) p is ∙ ap (λ (ls : List (List ℕ)). length (joined_lines ls)) all

    first : length (replies s₀ (whole_lines input)) ≡ p.written
    unfolding progress_of
    first = sym (ap (λ (q : Progress). q.written) whole_progress)

    state : states_after s₀ (whole_lines input) ≡ p.supervisor
    unfolding progress_of
    state = sym (ap (λ (q : Progress). q.supervisor) whole_progress)

    whole_buffer : b ≡ replies s₀ (whole_lines input) ++ drop p.written d
    unfolding answers_over
    whole_buffer =
        buffer
        ∙ ap (λ (ls : List (List ℕ)). answers_over s₀ ls d) all
        ∙ ap (λ (k : ℕ). replies s₀ (whole_lines input) ++ drop k d) first

    -- the last line, where its answer fits
    final : List (List ℕ)
    final = fitting p.supervisor (last_line (line_begun input)) (length (drop p.written b))

    -- what is left to read
    behind : take (length input - p.used) (drop p.used input) ≡ line_begun input
    unfolding line_begun
    behind = take_rest input p.used ∙ ap (λ (k : ℕ). drop k input) whole_read

    room : length d - length (replies s₀ (whole_lines input)) ≡ length (drop p.written b)
    room =
        let w : length b ≡ length (replies s₀ (whole_lines input)) + length (drop p.written d) =
        ap length whole_buffer ∙ length-append (replies s₀ (whole_lines input)) (drop p.written d) in
        omega (arith, first, length-drop p.written d, length-drop p.written b)

    lines : fitting s₀ (lines_of input) (length d) ≡ whole_lines input ++ final
    unfolding lines_of final count
    lines =
        fit_whole s₀ (whole_lines input) (last_line (line_begun input)) (length d) most
        ∙ ap (λ (s : Supervisor). whole_lines input ++ fitting s (last_line (line_begun input)) (length d - length (replies s₀ (whole_lines input)))) state
        ∙ ap (λ (k : ℕ). whole_lines input ++ fitting p.supervisor (last_line (line_begun input)) k) room

    replied : replies s₀ (fitting s₀ (lines_of input) (length d)) ≡ replies s₀ (whole_lines input) ++ replies p.supervisor final
    replied =
        ap (replies s₀) lines
        ∙ replies_append s₀ (whole_lines input) final
        ∙ ap (λ (s : Supervisor). replies s₀ (whole_lines input) ++ replies s final) state

    final_progress : q ≡ progress_of (line_begun input) p.supervisor final
    unfolding final
    final_progress =
        last-is
        ∙ ap (λ (t : List ℕ). last_of p.supervisor t (take (length b - p.written) (drop p.written b))) behind
        ∙ ap (last_of p.supervisor (line_begun input)) (take_rest b p.written)

    final_buffer : last ≡ answers_over p.supervisor final (drop p.written b)
    unfolding final
    final_buffer =
        placed
        ∙ ap (λ (t : List ℕ). last_over p.supervisor t (take (length b - p.written) (drop p.written b))) behind
        ∙ ap (last_over p.supervisor (line_begun input)) (take_rest b p.written)

    sum : p.written + q.written ≡ length (replies s₀ (fitting s₀ (lines_of input) (length d)))
    unfolding progress_of
    sum =
        let e : q.written ≡ length (replies p.supervisor final) = ap (λ (r : Progress). r.written) final_progress in
        let w : length (replies s₀ (fitting s₀ (lines_of input) (length d))) ≡ length (replies s₀ (whole_lines input)) + length (replies p.supervisor final) =
        ap length replied ∙ length-append (replies s₀ (whole_lines input)) (replies p.supervisor final) in
        omega (arith, first)

    used_sum : p.used + q.used ≡ min (length (joined_lines (fitting s₀ (lines_of input) (length d)))) (length input)
    unfolding progress_of
    used_sum =
        let u = whole_read in
        let v : q.used ≡ min (length (joined_lines final)) (length (line_begun input)) = ap (λ (r : Progress). r.used) final_progress in
        let w : length (joined_lines (fitting s₀ (lines_of input) (length d))) ≡ length (joined_lines (whole_lines input)) + length (joined_lines final) =
        ap (λ (ls : List (List ℕ)). length (joined_lines ls)) lines
        ∙ ap length (joined_append (whole_lines input) final)
        ∙ length-append (joined_lines (whole_lines input)) (joined_lines final) in
        omega (arith, simp length-append at (ap length (joined_begun input)))

    line_sum : p.lines + q.lines ≡ length (fitting s₀ (lines_of input) (length d))
    unfolding progress_of
    line_sum =
        let u : p.lines ≡ length (whole_lines input) = ap (λ (r : Progress). r.lines) whole_progress in
        let v : q.lines ≡ length final = ap (λ (r : Progress). r.lines) final_progress in
        omega (arith, ap length lines ∙ length-append (whole_lines input) final)

    final_state : q.supervisor ≡ states_after s₀ (fitting s₀ (lines_of input) (length d))
    unfolding progress_of
    final_state =
        ap (λ (r : Progress). r.supervisor) final_progress
        ∙ ap (λ (s : Supervisor). states_after s final) (sym state)
        ∙ sym (states_append s₀ (whole_lines input) final)
        ∙ ap (states_after s₀) (sym lines)

    pub sheet_more :
        (◌≡◌ {A = Progress} (record { supervisor = q.supervisor; used = p.used + q.used; written = p.written + q.written; lines = p.lines + q.lines })
        (progress_of input s₀ (fitting s₀ (lines_of input) (length d))))
        × (take p.written b ++ (last ++ drop (length b - p.written) (drop p.written b)) ≡ answers_over s₀ (fitting s₀ (lines_of input) (length d)) d)
    unfolding answers_over progress_of
    sheet_more =
        let f : List ℕ = replies p.supervisor final in
        let at : ℕ = p.written in
        let w : q.written ≡ length f = ap (λ (r : Progress). r.written) final_progress in
        let a = final_state in
        let u = used_sum in
        let n = sum in
        let l = line_sum in (
          cc,
          placed_buffer b at last f final_buffer
              ∙ ap (λ (t : List ℕ). put t at f) whole_buffer
              ∙ put_seam (replies s₀ (whole_lines input)) d at f first
              ∙ ap (λ (k : ℕ). (replies s₀ (whole_lines input) ++ f) ++ drop k d) (ap (λ (k : ℕ). at + k) (sym w) ∙ sum)
              ∙ ap (λ (t : List ℕ). t ++ drop (length (replies s₀ (fitting s₀ (lines_of input) (length d)))) d) (sym replied),
        )

    -- the sums are no more than there is
    pub sums_most : (p.used + q.used ≤ length input) × ((p.written + q.written ≤ length d) × (p.lines + q.lines ≤ length input))
    sums_most =
        let n : length (take (length (fitting s₀ (lines_of input) (length d))) (lines_of input)) ≡ length (fitting s₀ (lines_of input) (length d)) =
        ap length (fit_prefix s₀ (lines_of input) (length d)) in (
          omega (arith, used_sum),
          (
            omega (arith, sum, fit_room s₀ (lines_of input) (length d)),
            omega (arith, line_sum, length-take (length (fitting s₀ (lines_of input) (length d))) (lines_of input), lines_most input),
          ),
        )

-- ---- all lines are answered where all bytes are used

all_taken : (ls : List (List ℕ)) (r : List ℕ) (n : ℕ) → length (joined_lines ls ++ r) ≤ length (joined_lines (take n (ls ++ last_line r)))
    → take n (ls ++ last_line r) ≡ ls ++ last_line r
unfolding joined_lines last_line
all_taken [] [] n h = take-nil n
all_taken [] (b ∷ r) zero h = absurd (omega arith)
all_taken [] (b ∷ r) (suc n) h = ap (λ (t : List (List ℕ)). (b ∷ r) ∷ t) (take-nil n)
all_taken (l ∷ ls) r zero h = absurd (omega (arith, length-append (l ++ (newline ∷ joined_lines ls)) r, length-append l (newline ∷ joined_lines ls)))
all_taken (l ∷ ls) r (suc n) h =
    ap (λ (t : List (List ℕ)). l ∷ t)
    (all_taken ls r n
    (omega (
      arith,
      length-append (l ++ (newline ∷ joined_lines ls)) r,
      length-append l (newline ∷ joined_lines ls),
      length-append (joined_lines ls) r,
      length-append l (newline ∷ joined_lines (take n (ls ++ last_line r))),
    )))

pub all_answered : (s : Supervisor) (input : List ℕ) (room : ℕ) (p : Progress) → p ≡ progress_of input s (fitting s (lines_of input) room)
    → p.used ≡ length input → fitting s (lines_of input) room ≡ lines_of input
unfolding progress_of lines_of
all_answered s input room p is e =
    let ls : List (List ℕ) = fitting s (lines_of input) room in
    let n : ℕ = length ls in
    let front : take n (lines_of input) ≡ ls = fit_prefix s (lines_of input) room in
    let u : p.used ≡ min (length (joined_lines ls)) (length input) = ap (λ (q : Progress). q.used) is in
    let long : length (joined_lines (take n (lines_of input))) ≡ length (joined_lines ls) = ap (λ (ms : List (List ℕ)). length (joined_lines ms)) front in
    sym front ∙ all_taken (whole_lines input) (line_begun input) n (omega (arith, ap length (joined_begun input)))
