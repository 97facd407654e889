-- The turns of the loops over many lines find the first newline, and write answers one after the other.
use Prim.Native.Nat.{ℕ, zero, suc, min, ◌+◌, ◌-◌, ◌≤◌, ◌<◌}
use native.Mathlib.Numerals.{add-one}
use native.Mathlib.Omega.{arith}
use mathlib.Core.Path.{◌≡◌, refl, sym, ap, ◌∙◌}
use mathlib.Core.Bool.{true, false, not, cond, ◌||◌, true≢false}
use Rattle.std.specs.Prelude.{Option, None, Some, MatchOption, is_some, position}
use Rattle.std.specs.List.{list_any, position_or_len}
use Rattle.std.proofs.lemmas.Grind.{same_number_lists}
use Rattle.std.proofs.lemmas.List.{take_rest}
use Rattle.std.proofs.lemmas.Bool.Decides.{nat_tests}
use mathlib.Core.List.{List, [], ◌∷◌, ◌++◌, append-nil, append_assoc}
use lib.Dec.{eqb}
use lib.ListN.{length, get_or, set, take, drop, length-append, length-take, length-drop, drop_of_length-le}
use lib.Seq.{slice, length-take-le, drop-drop, get_or-take, get_or-drop}
use borrow.Author.Tests.{lt-ltb, le-ltb}
use native.Mathlib.Decide.{dec_lt}
use Rattle.falcon_core.specs.declared.supervisor.Supervisor.{Supervisor}
use Rattle.columns.specs.Field.{put}
use Rattle.requests.specs.ByLine.{need_of}
use Rattle.sheet.specs.Lines.{newline, whole_lines, joined_lines, line_begun, line_end, newline_at, kept_width, kept_bytes_of}
use Rattle.sheet.specs.Many.{after_line, reply_line, states_after, replies, fitting}
use Rattle.sheet.proofs.LinesAgain.{joined_append, whole_off, line_at}
use Rattle.sheet.proofs.LinesCut.{replies_append, states_append}
use Rattle.sheet.proofs.LinesFit.{fit_more}
use Rattle.columns.proofs.Writing.{put_more, put_seam}

-- ---- the search for a newline

-- `line_end` is the first place that passes the test, or the length
line_end_first : (l : List ℕ) → line_end l ≡ position_or_len (λ b. eqb b newline) l
unfolding line_end
line_end_first [] = refl
line_end_first (b ∷ l) =
    elim (eqb b newline) as (λ t. cond t zero (suc (line_end l)) ≡ cond (not t) (1 + position_or_len (λ b. eqb b newline) l) zero)
    [ true ↦ refl | false ↦ ap suc (line_end_first l) ∙ omega arith ]

-- a block with no newline is passed whole
pub block_passed : (l : List ℕ) (n : ℕ) → list_any (λ b. eqb b newline) (take n l) ≡ false → n ≤ length l → line_end l ≡ n + line_end (drop n l)
unfolding line_end
block_passed l zero none h = omega arith
block_passed [] (suc n) none h = absurd (omega arith)
block_passed (b ∷ l) (suc n) none h =
    (elim (eqb b newline) as (λ t. (t || list_any (λ b. eqb b newline) (take n l)) ≡ false → cond t zero (suc (line_end l)) ≡ suc n + line_end (drop n l))
    [ true ↦ λ e. absurd (true≢false e) | false ↦ λ e. ap suc (block_passed l n e (omega arith)) ∙ omega arith ])
    none

-- what `position` answers is the place or none
pub place_found : (l : List ℕ) (k : ℕ) → position (λ b. eqb b newline) l ≡ Some k → (k < length l) × (line_end l ≡ k)
place_found l k e = grind (arith, nat_tests, line_end_first l)

pub place_none : (l : List ℕ) → position (λ b. eqb b newline) l ≡ None → length l ≤ line_end l
place_none l e = grind (arith, nat_tests, line_end_first l)

-- a place, or none
pub place_is : (l : List ℕ) (from e : ℕ) → e < length l → e ≡ from + line_end (drop from l) → Some e ≡ newline_at l from
unfolding newline_at
place_is l from e h is = rw (lt-ltb (from + line_end (drop from l)) (length l) (omega arith)) (ap {B = Option ℕ} (λ k. Some k) is)

pub no_place : (l : List ℕ) (from : ℕ) → length l ≤ from + line_end (drop from l) → None ≡ newline_at l from
unfolding newline_at
no_place l from h = rw (le-ltb (from + line_end (drop from l)) (length l) h) refl

-- and what either says
pub place_says :
    (l : List ℕ) (from : ℕ) (r : Option ℕ) →
    r ≡ newline_at l from →
    MatchOption r (length l ≤ from + line_end (drop from l)) (λ e. (e < length l) × (e ≡ from + line_end (drop from l)))
unfolding newline_at
place_says l from r is =
    elim (dec_lt (from + line_end (drop from l)) (length l)) [
      | yes h ↦ rw (is, lt-ltb (from + line_end (drop from l)) (length l) h) (h, refl)
      | no q ↦ rw (is, le-ltb (from + line_end (drop from l)) (length l) (omega arith)) (omega arith)
    ]

-- where a newline is left the line ends within the bytes, and else not
pub newline_left : (l : List ℕ) (from : ℕ) → is_some (newline_at l from) ≡ true → from + line_end (drop from l) < length l
unfolding newline_at
newline_left l from h = grind (arith, nat_tests)

pub no_newline_left : (l : List ℕ) (from : ℕ) → is_some (newline_at l from) ≡ false → length l ≤ from + line_end (drop from l)
unfolding newline_at
no_newline_left l from h = grind (arith, nat_tests)

-- how many bytes are kept
pub kept_length : (l : List ℕ) (from have : ℕ) → length (kept_bytes_of l from have) ≡ min kept_width (min have (length l) - from)
unfolding kept_bytes_of
kept_length l from have =
    length-take kept_width (slice from have l)
    ∙ ap (min kept_width) (length-drop from (take have l) ∙ ap (λ (n : ℕ). n - from) (length-take have l))

-- and that they are the buffer's
pub kept_same : (l : List ℕ) (from have i : ℕ) → i < length (kept_bytes_of l from have) → get_or l (from + i) 0 ≡ get_or (kept_bytes_of l from have) i 0
unfolding kept_bytes_of
kept_same l from have i h =
    let n : length (kept_bytes_of l from have) ≡ min kept_width (min have (length l) - from) = kept_length l from have in
    sym (get_or-take kept_width (slice from have l) i 0 (omega arith)
    ∙ get_or-drop from (take have l) i 0
    ∙ get_or-take have l (from + i) 0 (omega arith))

-- so they are the first from a place on
pub kept_moved : (l : List ℕ) (from have s n : ℕ) → s ≡ min from (min have (length l)) → n ≡ min kept_width (min have (length l) - s)
    → take n (drop s l) ≡ kept_bytes_of l from have
kept_moved l from have s n is-s is-n =
    let long : length (kept_bytes_of l from have) ≡ min kept_width (min have (length l) - from) = kept_length l from have in
    let wide : length (take n (drop s l)) ≡ n = omega (arith, length-take n (drop s l), length-drop s l) in
    same_number_lists (take n (drop s l)) (kept_bytes_of l from have) (omega arith)
    (λ k h.
    let at : s + k ≡ from + k = omega arith in
    get_or-take n (drop s l) k 0 (omega arith)
    ∙ get_or-drop s l k 0
    ∙ ap (λ (i : ℕ). get_or l i 0) at
    ∙ kept_same l from have k (omega arith))

-- behind the whole lines that were answered: what `stream` keeps
pub kept_begun : (l : List ℕ) (used have : ℕ) → used ≡ length (joined_lines (whole_lines (take have l))) → kept_bytes_of l used have ≡ take kept_width (line_begun (take have l))
unfolding kept_bytes_of line_begun
kept_begun l used have e = ap (λ (n : ℕ). take kept_width (drop n (take have l))) e

-- ---- a part of a buffer that is lent from a place to the end

-- bytes at the front of the part are bytes put at the place
pub placed_buffer : (d : List ℕ) (at : ℕ) (last s : List ℕ) → last ≡ s ++ drop (length s) (drop at d)
    → take at d ++ (last ++ drop (length d - at) (drop at d)) ≡ put d at s
unfolding put
placed_buffer d at last s e =
    let all : length (drop at d) ≤ length d - at = omega (arith, length-drop at d) in
    let none : drop (length d - at) (drop at d) ≡ [] = drop_of_length-le (drop at d) all in
    ap (λ (t : List ℕ). take at d ++ (last ++ t)) none
    ∙ ap (λ (t : List ℕ). take at d ++ t) (append-nil last ∙ e ∙ ap (λ (t : List ℕ). s ++ t) (drop-drop (length s) at d))

-- bytes at the front of the part, and a byte behind them
pub placed_line : (d : List ℕ) (at i : ℕ) (last s : List ℕ) (b : ℕ) → i ≡ at + length s → i < length d
    → last ≡ s ++ drop (length s) (take (length d - at) (drop at d))
    → set (take at d ++ (last ++ drop (length d - at) (drop at d))) i b ≡ put d at (s ++ (b ∷ []))
placed_line d at i last s b e h is =
    ap (λ (k : ℕ). set (take at d ++ (last ++ drop (length d - at) (drop at d))) k b) e
    ∙ ap (λ (t : List ℕ). set t (at + length s) b) (placed_buffer d at last s (is ∙ ap (λ (t : List ℕ). s ++ drop (length s) t) (take_rest d at)))
    ∙ put_more d at s b (omega arith)

-- ---- one line more

take_next : (ls : List (List ℕ)) (k : ℕ) (l : List ℕ) (ms : List (List ℕ)) → drop k ls ≡ l ∷ ms → take (suc k) ls ≡ take k ls ++ (l ∷ [])
take_next [] zero l ms h = cc
take_next (x ∷ ls) zero l ms h = let e : x ≡ l = cc in ap (λ (m : List ℕ). m ∷ []) e
take_next [] (suc k) l ms h = cc
take_next (x ∷ ls) (suc k) l ms h = ap (λ (t : List (List ℕ)). x ∷ t) (take_next ls k l ms h)

pub more_left : (ls : List (List ℕ)) (k : ℕ) (l : List ℕ) (ms : List (List ℕ)) → drop k ls ≡ l ∷ ms → k < length ls
more_left ls k l ms h = omega (arith, length-drop k ls, ap length h)

pub none_left : (ls : List (List ℕ)) (k : ℕ) → drop k ls ≡ [] → length ls ≤ k
none_left ls k h = omega (arith, length-drop k ls, ap length h)

module _ (s₀ : Supervisor) (input d : List ℕ) where
  -- after k lines: the state, the bytes read and written, the buffer, and which lines fit
  pub record AfterLines (s : Supervisor) (used at k : ℕ) (out : List ℕ) : Type 0 where
    pub most : k ≤ length (whole_lines input)
    pub state : s ≡ states_after s₀ (take k (whole_lines input))
    pub read : used ≡ length (joined_lines (take k (whole_lines input)))
    pub written : at ≡ length (replies s₀ (take k (whole_lines input)))
    pub buffer : out ≡ replies s₀ (take k (whole_lines input)) ++ drop at d
    pub long : length out ≡ length d
    pub fits : fitting s₀ (whole_lines input) (length d) ≡ take k (whole_lines input) ++ fitting s (drop k (whole_lines input)) (length d - at)

  pub after_none : AfterLines s₀ 0 0 0 d
  unfolding states_after joined_lines replies
  after_none =
      let z : length d ≡ length d - 0 = omega arith in
      record { most = omega arith; state = refl; read = refl; written = refl; buffer = refl; long = refl; fits = ap (fitting s₀ (whole_lines input)) z }

  module _ (s : Supervisor) (used at k : ℕ) (out : List ℕ) (g : AfterLines s used at k out) where
    -- what is left to read has the lines that are left
    lines_left : whole_lines (drop used input) ≡ drop k (whole_lines input)
    lines_left = ap (λ (n : ℕ). whole_lines (drop n input)) g.read ∙ whole_off k input

    -- no more lines fit: those answered are those that do
    pub after_all : fitting s (whole_lines (drop used input)) (length d - at) ≡ [] → take k (whole_lines input) ≡ fitting s₀ (whole_lines input) (length d)
    after_all none =
        sym (g.fits
        ∙ ap (λ (ls : List (List ℕ)). take k (whole_lines input) ++ ls) (ap (λ (ls : List (List ℕ)). fitting s ls (length d - at)) (sym lines_left) ∙ none)
        ∙ append-nil (take k (whole_lines input)))

    -- a newline at e ends the line from `used`
    module _ (e : ℕ) (found : e ≡ used + line_end (drop used input)) (h : e < length input) where
      line : List ℕ
      line = take (e - used) (drop used input)

      next_line : drop k (whole_lines input) ≡ line ∷ whole_lines (drop (e + 1) input)
      unfolding line
      next_line = sym lines_left ∙ line_at input used e found h

      pub line_left : k < length (whole_lines input)
      line_left = more_left (whole_lines input) k line (whole_lines (drop (e + 1) input)) next_line

      -- it is answered
      pub after_more : (s' : Supervisor) (at' : ℕ) (next : List ℕ)
          → s' ≡ after_line s (take (e - used) (drop used input))
          → next ≡ put out at (reply_line s (take (e - used) (drop used input)) ++ (newline ∷ []))
          → length next ≡ length out
          → at' ≡ at + (length (reply_line s (take (e - used) (drop used input))) + 1)
          → need_of (take (e - used) (drop used input)) + 1 ≤ length d - at
          → AfterLines s' (e + 1) at' (k + 1) next
      unfolding line replies states_after joined_lines
      after_more s' at' next is-after is-next same more room =
          let ls : List (List ℕ) = whole_lines input in
          let done : List (List ℕ) = take k ls in
          let behind : List (List ℕ) = whole_lines (drop (e + 1) input) in
          let one : take (k + 1) ls ≡ done ++ (line ∷ []) = ap (λ (n : ℕ). take n ls) (add-one k) ∙ take_next ls k line behind next_line in
          let others : drop (k + 1) ls ≡ behind = sym (drop-drop 1 k ls) ∙ ap (drop 1) next_line in
          let wide : length line ≡ e - used = length-take-le (e - used) (drop used input) (omega (arith, length-drop used input)) in
          let r : used ≡ length (joined_lines done) = g.read in
          let w : at ≡ length (replies s₀ done) = g.written in
          let answer : List ℕ = reply_line s line ++ (newline ∷ []) in
          let all : replies s₀ (take (k + 1) ls) ≡ replies s₀ done ++ answer =
          ap (replies s₀) one
          ∙ replies_append s₀ done (line ∷ [])
          ∙ ap (λ (t : Supervisor). replies s₀ done ++ (reply_line t line ++ (newline ∷ []))) (sym g.state) in
          let left : length d - at - (length (reply_line s line) + 1) ≡ length d - at' = omega arith in
          record {
            most = omega (arith, line_left);
            state = is-after ∙ ap (λ (t : Supervisor). after_line t line) g.state ∙ sym (ap (states_after s₀) one ∙ states_append s₀ done (line ∷ []));
            read =
                sym (ap (λ (ms : List (List ℕ)). length (joined_lines ms)) one
                ∙ ap length (joined_append done (line ∷ []))
                ∙ length-append (joined_lines done) (line ++ (newline ∷ []))
                ∙ omega (arith, length-append line (newline ∷ [])));
            written =
                sym (ap length all
                ∙ length-append (replies s₀ done) answer
                ∙ omega (arith, length-append (reply_line s line) (newline ∷ [])));
            buffer =
                is-next
                ∙ ap (λ (t : List ℕ). put t at answer) g.buffer
                ∙ put_seam (replies s₀ done) d at answer (sym w)
                ∙ ap (λ (t : List ℕ). t ++ drop (at + length answer) d) (sym all)
                ∙ ap (λ (n : ℕ). replies s₀ (take (k + 1) ls) ++ drop (at + n) d) (length-append (reply_line s line) (newline ∷ []))
                ∙ ap (λ (n : ℕ). replies s₀ (take (k + 1) ls) ++ drop n d) (sym more);
            long = same ∙ g.long;
            fits =
                g.fits
                ∙ ap (λ (ms : List (List ℕ)). done ++ fitting s ms (length d - at)) next_line
                ∙ ap (λ (ms : List (List ℕ)). done ++ ms) (fit_more s line behind (length d - at) room)
                ∙ sym (append_assoc done (line ∷ []) _)
                ∙ ap (λ (ms : List (List ℕ)). ms ++ fitting (after_line s line) behind (length d - at - (length (reply_line s line) + 1))) (sym one)
                ∙ ap (λ (ms : List (List ℕ)). take (k + 1) ls ++ fitting (after_line s line) ms (length d - at - (length (reply_line s line) + 1))) (sym others)
                ∙ ap (λ (n : ℕ). take (k + 1) ls ++ fitting (after_line s line) (drop (k + 1) ls) n) left
                ∙ ap (λ (t : Supervisor). take (k + 1) ls ++ fitting t (drop (k + 1) ls) (length d - at')) (sym is-after);
          }
