-- Lines answered a buffer at a time, and then a last line with a newline put behind it, are all answered.
use Rattle.std.proofs.Common.{ℕ, ◌+◌, ◌-◌, ◌*◌, ◌≤◌, ◌<◌, ◌≡◌, refl, sym, ap, ◌∙◌, List, [], ◌∷◌, ◌++◌, length, set, take, drop, add-one, arith, length-append, take-append-drop}
use Rattle.std.proofs.lemmas.List.{nil_from_length, take_rest}
use Rattle.std.proofs.Math.Seq.{length-take-le, take-suc-set, drop-drop}
use Rattle.falcon_core.specs.declared.supervisor.Supervisor.{Supervisor}
use Rattle.columns.specs.Field.{field_width}
use Rattle.requests.specs.ByLine.{most_needed}
use Rattle.requests.proofs.Buffer.{needs_most}
use Rattle.sheet.specs.declared.many.Progress.{Progress}
use Rattle.sheet.specs.Lines.{newline, whole_lines, joined_lines, last_line}
use Rattle.sheet.specs.Many.{states_after, replies, fitting, progress_of, answers_over}
use Rattle.sheet.proofs.LinesAgain.{whole_line, joined_append, joined_most, joined_begun, whole_off}
use Rattle.sheet.proofs.LinesCut.{states_append}
use Rattle.sheet.proofs.LinesFit.{fit_more, fit_prefix}
use Rattle.sheet.proofs.Replies.{progress_read, last_none, last_one}

-- room for the answer to a line of any kind, and its newline
abbrev pub reply_most : ℕ
reply_most = field_width * most_needed + 1

-- with so much room a line fits where one is
fitting_some : (s : Supervisor) (ls : List (List ℕ)) (room : ℕ) → reply_most ≤ room → fitting s ls room ≡ [] → ls ≡ []
fitting_some s [] room h none = refl
fitting_some s (l ∷ ls) room h none =
    absurd (omega (arith, needs_most l, ap length none, ap length (fit_more s l ls room (omega (arith, needs_most l)))))

module _ (s₀ : Supervisor) (input : List ℕ) where
  -- so many bytes are read: from this state on, the lines behind them leave the state that all leave
  pub record Drains (s : Supervisor) (used : ℕ) : Type 0 where
    pub state : states_after s₀ (whole_lines input) ≡ states_after s (whole_lines (drop used input))
    pub read : length (joined_lines (whole_lines input)) ≡ used + length (joined_lines (whole_lines (drop used input)))

  module _ (s : Supervisor) (used : ℕ) (g : Drains s used) where
    pub used_fits : used ≤ length input
    used_fits = omega (arith, g.read, simp length-append at (ap length (joined_begun input)))

    module _ (room : ℕ) (p : Progress)
        (told : p ≡ progress_of (take (length input - used) (drop used input)) s (fitting s (whole_lines (take (length input - used) (drop used input))) room)) where
      is : p ≡ progress_of (drop used input) s (fitting s (whole_lines (drop used input)) room)
      is = told ∙ ap (λ (t : List ℕ). progress_of t s (fitting s (whole_lines t) room)) (take_rest input used)

      left : List (List ℕ)
      left = whole_lines (drop used input)

      now : List (List ℕ)
      now = fitting s left room

      used_is : p.used ≡ length (joined_lines now)
      unfolding now left
      used_is = progress_read s (drop used input) room p is

      lines_are : p.lines ≡ length now
      unfolding now left progress_of
      lines_are = ap (λ (q : Progress). q.lines) is

      -- the lines behind
      behind : drop (length now) left ≡ whole_lines (drop (used + p.used) input)
      unfolding now left
      behind =
          sym (whole_off (length now) (drop used input))
          ∙ ap (λ (ls : List (List ℕ)). whole_lines (drop (length (joined_lines ls)) (drop used input))) (fit_prefix s left room)
          ∙ ap (λ (n : ℕ). whole_lines (drop n (drop used input))) (sym used_is)
          ∙ ap whole_lines (drop-drop p.used used input)

      parts : left ≡ now ++ whole_lines (drop (used + p.used) input)
      unfolding now left
      parts =
          sym (take-append-drop (length now) left)
          ∙ ap (λ (ls : List (List ℕ)). ls ++ drop (length now) left) (fit_prefix s left room)
          ∙ ap (λ (ls : List (List ℕ)). now ++ ls) behind

      pub drains_next : Drains p.supervisor (used + p.used)
      unfolding now left progress_of
      drains_next =
          record {
            state =
                g.state
                ∙ ap (states_after s) parts
                ∙ states_append s now (whole_lines (drop (used + p.used) input))
                ∙ ap (λ (t : Supervisor). states_after t (whole_lines (drop (used + p.used) input))) (sym (ap (λ (q : Progress). q.supervisor) is));
            read =
                let n : length (joined_lines left) ≡ length (joined_lines now) + length (joined_lines (whole_lines (drop (used + p.used) input))) =
                ap (λ (ls : List (List ℕ)). length (joined_lines ls)) parts
                ∙ ap length (joined_append now (whole_lines (drop (used + p.used) input)))
                ∙ length-append (joined_lines now) (joined_lines (whole_lines (drop (used + p.used) input))) in
                omega (arith, g.read, used_is);
          }

      -- a line is answered: bytes are read
      pub some_read : (p.lines ≡ 0 → ⊥) → 0 < p.used
      some_read q = omega (arith, lines_are, used_is, joined_most now, q)

      -- none is: all are answered
      pub drains_last : reply_most ≤ room → p.lines ≡ 0 → (s ≡ states_after s₀ (whole_lines input)) × (used ≡ length (joined_lines (whole_lines input)))
      unfolding now left states_after joined_lines
      drains_last some none =
          let done : left ≡ [] = fitting_some s left room some (nil_from_length now (sym lines_are ∙ none)) in (
            sym (g.state ∙ ap (states_after s) done),
            sym (g.read ∙ ap (λ (ls : List (List ℕ)). used + length (joined_lines ls)) done ∙ omega arith),
          )

-- ---- a last line, with a newline put behind it

-- a line fits
last_fits : (s : Supervisor) (l : List ℕ) (room : ℕ) → reply_most ≤ room → fitting s (last_line l) room ≡ last_line l
unfolding last_line
last_fits s [] room h = last_none s [] room refl
last_fits s (b ∷ l) room h = last_one s (b ∷ l) room (λ e. omega arith) (omega (arith, needs_most (b ∷ l)))

last_some : (l : List ℕ) → (length l ≡ 0 → ⊥) → l ∷ [] ≡ last_line l
unfolding last_line
last_some [] q = absurd (q refl)
last_some (b ∷ l) q = refl

module _ (s : Supervisor) (buf out : List ℕ) (have : ℕ) where
  pub finish_none : have ≡ 0 → out ≡ answers_over s (last_line (take have buf)) out
  unfolding answers_over replies last_line
  finish_none e = ap (λ (n : ℕ). answers_over s (last_line (take n buf)) out) (sym e)

  module _ (fits : have < length buf) (bare : whole_lines (take have buf) ≡ []) (some : have ≡ 0 → ⊥) where
    one_line : whole_lines (take (have + 1) (set buf have newline)) ≡ last_line (take have buf)
    unfolding whole_lines
    one_line =
        ap (λ (n : ℕ). whole_lines (take n (set buf have newline))) (add-one have)
        ∙ ap whole_lines (take-suc-set buf have newline fits)
        ∙ whole_line (take have buf) [] bare
        ∙ last_some (take have buf) (λ e. some (sym (length-take-le have buf (omega arith)) ∙ e))

    pub finish_one : (last : List ℕ) → reply_most ≤ length out
        → last ≡ answers_over s (fitting s (whole_lines (take (have + 1) (set buf have newline))) (length out)) out
        → last ≡ answers_over s (last_line (take have buf)) out
    finish_one last room is =
        is
        ∙ ap (λ (ls : List (List ℕ)). answers_over s (fitting s ls (length out)) out) one_line
        ∙ ap (λ (ls : List (List ℕ)). answers_over s ls out) (last_fits s (take have buf) (length out) room)
