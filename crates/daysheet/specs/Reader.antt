-- "The program `daysheet` reads standard input": the state and the line begun, by the parts that the reads gave.
use Rattle.std.specs.Prelude.{ℕ, ◌≡◌, List, ◌++◌, take}
use Rattle.std.specs.List.{concat}
use Rattle.falcon_core.specs.declared.supervisor.Supervisor.{Supervisor}
use Rattle.falcon_core.specs.Calls.{unopened}
use Rattle.sheet.specs.Lines.{kept_width, whole_lines, line_begun}
use Rattle.sheet.specs.Many.{states_after}

-- one read is a step of `stream`: the state and the bytes kept of the line begun, before its part and after it
pub record ReadsPart (s : Supervisor) (p : List ℕ) (s' : Supervisor) (p' : List ℕ) : Type 0 where
  pub part : List ℕ
  pub state : s' ≡ states_after s (whole_lines (p ++ part))
  pub begun : p' ≡ take kept_width (line_begun (p ++ part))

-- all reads so far: the state is that after the whole lines of their parts, and the bytes kept are those of the line begun
pub record ReadsAll (s : Supervisor) (p : List ℕ) : Type 0 where
  pub parts : List (List ℕ)
  pub state : s ≡ states_after unopened (whole_lines (concat parts))
  pub begun : p ≡ take kept_width (line_begun (concat parts))
