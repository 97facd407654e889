-- The check table by its two masks.
use Rattle.std.specs.Prelude.{ℕ, ◌+◌, ◌*◌, ◌^◌, eqb}
use Rattle.std.specs.Option.{option_map_or}
use Rattle.relay_preflight.specs.declared.CheckTable.{CheckTable}
use Rattle.relay_preflight.specs.Check.{check_at}
use Rattle.relay_preflight.specs.Table.{new_table_of, set_of}

-- both masks in one number, the required one in the upper half
abbrev pub masks : CheckTable → ℕ
masks t = t.required * 2 ^ 32 + t.passed

-- `CheckTable::set` by masks, the check's number and a flag, of which 1 alone is true; from check 21 on there is nothing to set
unfoldable pub set_masks : ℕ → ℕ → ℕ → ℕ → ℕ
set_masks required passed id pass =
    let t = new_table_of required passed in
    masks (option_map_or (λ id. set_of t id (eqb pass 1)) (check_at id) t)
