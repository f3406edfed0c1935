use Rattle.utf8.proofs.Ascii.{ascii_said}
use Rattle.utf8.proofs.all_ascii.Goals as goal

pub returns : goal.returns
returns c = ascii_said _ _ c.is_ascii.ensures.cases
