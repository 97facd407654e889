-- The blocks passed have no newline, and then the first one is looked for.
use Rattle.std.proofs.Common.{arith, ap, sym, ◌∙◌, ◌≡◌, ◌<◌, ◌+◌, length, nat_eq, List, ℕ}
use Rattle.std.specs.List.{list_any}
use Rattle.sheet.specs.Lines.{newline, line_end}
use Rattle.sheet.proofs.LinesTurns.{block_passed, place_found, place_is}
use Rattle.sheet.proofs.lines.find_newline.Goals as goal

pub loop-block-preserved : goal.loop-block-preserved
loop-block-preserved c =
    let l = c.loop-block.behind.now in
    let h = c.in-Some.ensures.cases in
    let none = ap (list_any (λ b. nat_eq b newline)) (sym h.0) ∙ sym c.contains.ensures.value ∙ c.if-contains.false in
    let passed : line_end l ≡ 16 + line_end c.in-Some.rest.now = block_passed l 16 none (omega arith) ∙ ap (λ (r : List ℕ). 16 + line_end r) (sym h.1) in
    omega arith

pub returns : goal.returns
returns c =
    let l = c.loop-block.behind.now in
    let k = c.in_ok-place.place in
    let found : (k < length l) × (line_end l ≡ k) = place_found l k (sym c.next_newline.ensures ∙ c.in_ok-place.was) in
    place_is c.args.input.now c.args.from _ (omega arith) (omega arith)
