-- `read_one` reads a digit behind ten spaces.
use Rattle.std.proofs.Common.{◌≡◌, ℕ, ◌-◌, ◌≤◌, Option, Some, None, SomeIff, IfSome}
use Rattle.columns.specs.Field.{in_range}
use Rattle.columns.proofs.Words.{field_one}
use Rattle.columns.proofs.field.read_one.Goals as goal

-- the last byte is a digit or none
last : (b : ℕ) (f o : Option ℕ) → ((r : ℕ) → 48 ≤ b → b ≤ 57 → r ≡ b - 48 → in_range r ≡ f) → SomeIff o ((48 ≤ b) × (b ≤ 57)) (b - 48) → IfSome o (λ v. in_range v ≡ f)
last b f None h d = tt
last b f (Some r) h d = h r d.0.0 d.0.1 d.1

pub returns : goal.returns
returns c =
    let front = c.in_ok-first_chunk.ensures.cases in
    let w = c.from_le_bytes-front in
    last _ _ c.digit.result
    (field_one c.args.field.now c.told-field c.fits-field _ front.same w.result w.ensures c.if-front-ne-EIGHT_SPACES.false c.if-field-ne32.false c.if-field-ne32-2.false)
    c.digit.ensures
