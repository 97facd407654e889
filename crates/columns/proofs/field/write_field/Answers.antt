-- `write_field` writes the digits from the last to the first into spaces, two a turn.
use Rattle.std.proofs.Common.{◌≡◌, ℕ, List, replicate, sym, ap, ◌∙◌, subst}
use Rattle.columns.specs.Field.{field_width, space, spaces}
use Rattle.columns.proofs.Writing.{Partly, partly_first, partly_one, partly_two, partly_pair}
use Rattle.columns.proofs.field.write_field.Goals as goal

pub loop-at-init : goal.loop-at-init
loop-at-init c =
    let n = c.args.n in
    let e : c.fill.new.self ≡ spaces field_width = c.fill.ensures.after (λ y h. h) ∙ ap (λ (k : ℕ). replicate k space) c.requires in
    subst (λ (o : List ℕ). Partly o n 0 n) (sym e) (partly_first n)

pub returns-then-rest-lt10 : goal.returns-then-rest-lt10
returns-then-rest-lt10 c = partly_one _ _ _ _ c.loop-at.invariant c.if-rest-lt10.true

pub returns-then-rest-eq0 : goal.returns-then-rest-eq0
returns-then-rest-eq0 c = partly_two _ _ _ _ c.loop-at.invariant c.if-rest-lt10.false _ c.write_pair.ensures c.if-rest-eq0.true

pub loop-at-preserved : goal.loop-at-preserved
loop-at-preserved c = partly_pair _ _ _ _ c.loop-at.invariant c.if-rest-lt10.false _ c.write_pair.ensures c.ranges.n.fits c.if-rest-eq0.false
