use mathlib.Core.Path.{refl}
use Rattle.falcon_record.specs.Form.{zone_width, zones_at, later_at, fields_of}
use Rattle.falcon_record.proofs.Saving.{columns_put}
use Rattle.falcon_record.proofs.record_columns.Goals as goal

pub returns : goal.returns
unfolding fields_of later_at zones_at zone_width
returns c = columns_put _ _ _ _ _ _ c.scalar_numbers.ensures c.place_numbers.ensures refl c.put_numbers.ensures c.put_numbers-2.ensures
