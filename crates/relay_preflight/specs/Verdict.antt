-- The first blocker of document 01, "Check table", and its number.
use Rattle.std.specs.Prelude.{ℕ, Option, Some, None, find}
use Rattle.relay_preflight.specs.Check.{all_checks, check_number}
use Rattle.relay_preflight.specs.Table.{fails_of}
use Rattle.relay_preflight.specs.declared.CheckId.{CheckId}
use Rattle.relay_preflight.specs.declared.CheckTable.{CheckTable}

-- `arm_check_table`: "The first blocker is the first failing required check in the order of `CheckId::ALL`, not of numbers."
unfoldable pub first_blocker_of : CheckTable → Option CheckId
first_blocker_of t = find (fails_of t) all_checks

-- the answer's last field: "first blocker (21 if none)"
abbrev pub no_blocker : ℕ
no_blocker = 21

-- the blocker's number on the sheet: the blocker's check number, 21 if none
abbrev pub blocker_number : Option CheckId → ℕ
blocker_number None = no_blocker
blocker_number (Some id) = check_number id
