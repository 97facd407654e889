-- The bytes kept of a line begun hold no newline.
use Rattle.daysheet.proofs.ReadParts.{reads_bare}
use Rattle.daysheet.proofs.answer_all.Goals as goal

pub finish-requires : goal.finish-requires
finish-requires c = reads_bare _ _ c.read_all-kept.ensures
