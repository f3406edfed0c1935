use mathlib.Core.Path.{◌∙◌}
use Rattle.fields.proofs.Appends.{same}
use Rattle.packages.proofs.Laws.{bytes-said}
use Rattle.packages.proofs.put64.Goals as goal

pub returns : goal.returns
returns c = same (c.to_le_bytes.ensures ∙ bytes-said c.args.v) c.put_text.ensures
