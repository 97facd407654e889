-- An input that is read in parts, cut anywhere, has the answers of its lines.
use Prim.Native.Nat.{ℕ, zero, suc, ◌*◌, ◌<◌}
use native.Mathlib.Omega.{arith}
use native.Mathlib.Decide.{dec_le}
use mathlib.Core.Path.{◌≡◌, refl, sym, ap, ◌∙◌}
use mathlib.Core.List.{List, [], ◌∷◌, ◌++◌, map, append-nil, append_assoc, map-append}
use lib.Dec.{lit≤}
use lib.ListN.{length, take}
use lib.Seq.{take-nil, take_all}
use Rattle.std.specs.Prelude.{Option}
use Rattle.std.specs.List.{concat}
use Rattle.std.proofs.lemmas.Grind.{common_steps}
use Rattle.std.proofs.lemmas.List.Elements.{All-nil, All-cons, All-head}
use Rattle.falcon_core.specs.declared.supervisor.Supervisor.{Supervisor}
use Rattle.columns.specs.Field.{field_width}
use Rattle.requests.specs.Kinds.{asked_step}
use Rattle.requests.specs.Parse.{most_fields, line_numbers, read_asks, line_asks}
use Rattle.requests.specs.ByLine.{reply_of}
use Rattle.requests.proofs.Asking.{line_numbers_cut}
use Rattle.sheet.specs.Lines.{newline, whole_lines, joined_lines, line_begun, last_line, lines_of, kept_width}
use Rattle.sheet.specs.Many.{after_line, reply_line, states_after, replies, stream}
use Rattle.sheet.proofs.LinesAgain.{IsBare, AllBare, bare_append, bare_take, whole_bare, whole_joined, joined_begun, begun_bare, begun_joined, begun_all, lines_split, whole_split, begun_split}

-- ---- lines cut to their first n bytes

cut_take : (n : ℕ) (s t : List ℕ) → take n (take n s ++ t) ≡ take n (s ++ t)
cut_take n s t = grind (arith, common_steps)

cut_last : (n : ℕ) (r : List ℕ) → 0 < n → map (take n) (last_line r) ≡ last_line (take n r)
unfolding last_line
cut_last zero r h = absurd (omega arith)
cut_last (suc n) [] h = refl
cut_last (suc n) (b ∷ r) h = refl

-- an input without a newline is one line, or none
lines_none : (s : List ℕ) → whole_lines s ≡ [] → lines_of s ≡ last_line s
unfolding lines_of
lines_none s h = ap (λ (ls : List (List ℕ)). ls ++ last_line (line_begun s)) h ∙ ap last_line (begun_all s h)

-- a line begun, cut to its first n bytes: the first n bytes of every whole line and of the line begun behind them stay
module _ (n : ℕ) (some : 0 < n) (q : List ℕ) (bare : whole_lines q ≡ []) where
  cut_parts : (t : List ℕ) (ls : List (List ℕ)) → AllBare ls → whole_lines t ≡ ls
      → (map (take n) (whole_lines (take n q ++ t)) ≡ map (take n) (whole_lines (q ++ t))) × (take n (line_begun (take n q ++ t)) ≡ take n (line_begun (q ++ t)))
  unfolding joined_lines
  cut_parts t [] h e =
      let short : whole_lines (take n q ++ t) ≡ [] = bare_append (take n q) t (bare_take n q bare) e in
      let all : whole_lines (q ++ t) ≡ [] = bare_append q t bare e in (
        ap (map (take n)) (short ∙ sym all),
        ap (take n) (begun_all (take n q ++ t) short) ∙ cut_take n q t ∙ ap (take n) (sym (begun_all (q ++ t) all)),
      )
  cut_parts t (l ∷ ls) h e =
      let u : List ℕ = joined_lines ls ++ line_begun t in
      let parts : l ++ (newline ∷ u) ≡ t =
      sym (append_assoc l (newline ∷ joined_lines ls) (line_begun t)) ∙ ap (λ (ms : List (List ℕ)). joined_lines ms ++ line_begun t) (sym e) ∙ joined_begun t in
      let front : (p : List ℕ) → p ++ t ≡ joined_lines ((p ++ l) ∷ []) ++ u =
      λ p. ap (λ (r : List ℕ). p ++ r) (sym parts) ∙ sym (append_assoc p l (newline ∷ u)) ∙ sym (append_assoc (p ++ l) (newline ∷ []) u) in
      let lines : (p : List ℕ) → whole_lines p ≡ [] → whole_lines (p ++ t) ≡ (p ++ l) ∷ whole_lines u =
      λ p b. ap whole_lines (front p) ∙ whole_joined ((p ++ l) ∷ []) u (All-cons IsBare (p ++ l) [] (bare_append p l b (All-head IsBare l ls h)) (All-nil IsBare)) in
      let behind : (p : List ℕ) → whole_lines p ≡ [] → line_begun (p ++ t) ≡ line_begun u =
      λ p b. ap line_begun (front p) ∙ begun_joined ((p ++ l) ∷ []) u (All-cons IsBare (p ++ l) [] (bare_append p l b (All-head IsBare l ls h)) (All-nil IsBare)) in (
        ap (map (take n)) (lines (take n q) (bare_take n q bare))
            ∙ ap (λ (k : List ℕ). k ∷ map (take n) (whole_lines u)) (cut_take n q l)
            ∙ ap (map (take n)) (sym (lines q bare)),
        ap (take n) (behind (take n q) (bare_take n q bare) ∙ sym (behind q bare)),
      )

  cut_whole : (t : List ℕ) → map (take n) (whole_lines (take n q ++ t)) ≡ map (take n) (whole_lines (q ++ t))
  cut_whole t = (cut_parts t (whole_lines t) (whole_bare t) refl).0

  cut_begun : (t : List ℕ) → take n (line_begun (take n q ++ t)) ≡ take n (line_begun (q ++ t))
  cut_begun t = (cut_parts t (whole_lines t) (whole_bare t) refl).1

  cut_lines : (t : List ℕ) → map (take n) (lines_of (take n q ++ t)) ≡ map (take n) (lines_of (q ++ t))
  unfolding lines_of
  cut_lines t =
      cut_all (take n q ++ t)
      ∙ ap (λ (ls : List (List ℕ)). ls ++ last_line (take n (line_begun (take n q ++ t)))) (cut_whole t)
      ∙ ap (λ (r : List ℕ). map (take n) (whole_lines (q ++ t)) ++ last_line r) (cut_begun t)
      ∙ sym (cut_all (q ++ t))
    where
      cut_all : (s : List ℕ) → map (take n) (whole_lines s ++ last_line (line_begun s)) ≡ map (take n) (whole_lines s) ++ last_line (take n (line_begun s))
      cut_all s =
          map-append (take n) (whole_lines s) (last_line (line_begun s)) ∙ ap (λ (ls : List (List ℕ)). map (take n) (whole_lines s) ++ ls) (cut_last n (line_begun s) some)

-- ---- a line is answered by the bytes kept of it

-- one byte over the limit shows that a line is too long
line_numbers_kept : (l : List ℕ) → line_numbers l ≡ line_numbers (take kept_width l)
line_numbers_kept l =
    elim (dec_le (length l) (field_width * most_fields)) [
      | yes h ↦ ap line_numbers (sym (take_all kept_width l (omega arith)))
      | no q ↦ line_numbers_cut l (omega arith)
    ]

after_kept : (s : Supervisor) (l : List ℕ) → after_line s l ≡ after_line s (take kept_width l)
unfolding after_line line_asks
after_kept s l = ap (λ (r : Option (List ℕ)). (asked_step s (read_asks r)).supervisor) (line_numbers_kept l)

reply_kept : (s : Supervisor) (l : List ℕ) → reply_line s l ≡ reply_line s (take kept_width l)
unfolding reply_line line_asks
reply_kept s l = ap (λ (r : Option (List ℕ)). reply_of (asked_step s (read_asks r))) (line_numbers_kept l)

states_kept : (s : Supervisor) (ls : List (List ℕ)) → states_after s ls ≡ states_after s (map (take kept_width) ls)
unfolding states_after
states_kept s [] = refl
states_kept s (l ∷ ls) = ap (λ (t : Supervisor). states_after t ls) (after_kept s l) ∙ states_kept (after_line s (take kept_width l)) ls

replies_kept : (s : Supervisor) (ls : List (List ℕ)) → replies s ls ≡ replies s (map (take kept_width) ls)
unfolding replies
replies_kept s [] = refl
replies_kept s (l ∷ ls) =
    ap (λ (r : List ℕ). r ++ (newline ∷ replies (after_line s l) ls)) (reply_kept s l)
    ∙ ap (λ (t : Supervisor). reply_line s (take kept_width l) ++ (newline ∷ replies t ls)) (after_kept s l)
    ∙ ap (λ (r : List ℕ). reply_line s (take kept_width l) ++ (newline ∷ r)) (replies_kept (after_line s (take kept_width l)) ls)

-- so is a last line
pub last_kept : (s : Supervisor) (r : List ℕ) → replies s (last_line (take kept_width r)) ≡ replies s (last_line r)
last_kept s r = ap (replies s) (sym (cut_last kept_width r (lit≤ tt))) ∙ sym (replies_kept s (last_line r))

-- ---- lines behind others

pub states_append : (s : Supervisor) (ls ms : List (List ℕ)) → states_after s (ls ++ ms) ≡ states_after (states_after s ls) ms
unfolding states_after
states_append s [] ms = refl
states_append s (l ∷ ls) ms = states_append (after_line s l) ls ms

pub replies_append : (s : Supervisor) (ls ms : List (List ℕ)) → replies s (ls ++ ms) ≡ replies s ls ++ replies (states_after s ls) ms
unfolding replies states_after
replies_append s [] ms = refl
replies_append s (l ∷ ls) ms =
    ap (λ (r : List ℕ). reply_line s l ++ (newline ∷ r)) (replies_append (after_line s l) ls ms)
    ∙ sym (append_assoc (reply_line s l) (newline ∷ replies (after_line s l) ls) (replies (states_after (after_line s l) ls) ms))

-- ---- one part more

-- the state is that after the whole lines of all that was read
pub states_part :
    (s : Supervisor) (q c : List ℕ) →
    states_after (states_after s (whole_lines q)) (whole_lines (take kept_width (line_begun q) ++ c)) ≡ states_after s (whole_lines (q ++ c))
states_part s q c =
    let t : Supervisor = states_after s (whole_lines q) in
    states_kept t (whole_lines (take kept_width (line_begun q) ++ c))
    ∙ ap (states_after t) (cut_whole kept_width (lit≤ tt) (line_begun q) (begun_bare q) c)
    ∙ sym (states_kept t (whole_lines (line_begun q ++ c)))
    ∙ sym (states_append s (whole_lines q) (whole_lines (line_begun q ++ c)))
    ∙ ap (states_after s) (sym (whole_split q c))

-- and the bytes kept are those of the line begun
pub kept_part : (q c : List ℕ) → take kept_width (line_begun (take kept_width (line_begun q) ++ c)) ≡ take kept_width (line_begun (q ++ c))
kept_part q c = cut_begun kept_width (lit≤ tt) (line_begun q) (begun_bare q) c ∙ ap (take kept_width) (sym (begun_split q c))

-- ---- all parts

-- the answers of an input whose begun line was cut
replies_begun : (s : Supervisor) (q t : List ℕ) → whole_lines q ≡ [] → replies s (lines_of (take kept_width q ++ t)) ≡ replies s (lines_of (q ++ t))
replies_begun s q t bare =
    replies_kept s (lines_of (take kept_width q ++ t))
    ∙ ap (replies s) (cut_lines kept_width (lit≤ tt) q bare t)
    ∙ sym (replies_kept s (lines_of (q ++ t)))

-- from a line begun: the parts to come give the answers of all that is left
stream_left : (s : Supervisor) (q : List ℕ) (cs : List (List ℕ)) → whole_lines q ≡ [] → stream s (take kept_width q) cs ≡ replies s (lines_of (q ++ concat cs))
unfolding stream
stream_left s q [] bare =
    ap (replies s) (sym (lines_none (take kept_width q) (bare_take kept_width q bare)) ∙ ap lines_of (sym (append-nil (take kept_width q))))
    ∙ replies_begun s q [] bare
stream_left s q (c ∷ cs) bare =
    let p : List ℕ = take kept_width q in
    ap (λ (r : List ℕ). replies s (whole_lines (p ++ c)) ++ r)
    (stream_left (states_after s (whole_lines (p ++ c))) (line_begun (p ++ c)) cs (begun_bare (p ++ c)))
    ∙ sym (replies_append s (whole_lines (p ++ c)) (lines_of (line_begun (p ++ c) ++ concat cs)))
    ∙ ap (replies s) (sym (lines_split (p ++ c) (concat cs)) ∙ ap lines_of (append_assoc p c (concat cs)))
    ∙ replies_begun s q (c ++ concat cs) bare

-- an input that is read in parts, cut anywhere, has the answers of its lines
pub in_parts : (s : Supervisor) (cs : List (List ℕ)) → stream s [] cs ≡ replies s (lines_of (concat cs))
unfolding whole_lines
in_parts s cs = ap (λ (p : List ℕ). stream s p cs) (sym (take-nil kept_width)) ∙ stream_left s [] cs refl
