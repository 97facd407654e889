-- A line's numbers are read, and then what they ask.
use mathlib.Core.Path.{◌∙◌}
use borrow.Author.Rules.{rules}
use Rattle.requests.proofs.Asking.{line_asks_read, asks_among}
use Rattle.requests.proofs.parse.line_asks.Goals as goal

pub returns-clause-asks : goal.returns-clause-asks
returns-clause-asks c = let told = c.read_line in
    asks_among c.numbers_ask.result told.new.numbers c.in-Ok.count _ (
      c.numbers_ask.ensures.0
          ∙ line_asks_read _ c.args.numbers.now (search rules) told.result told.ensures.value _ _ told.ensures.numbers_after c.in-Ok.is,
      c.numbers_ask.ensures.1,
    )
