use native.Mathlib.Omega.{arith}
use mathlib.Core.Path.{◌∙◌}
use Rattle.fields.proofs.Appends.{same, two_said}
use Rattle.fields.proofs.put16.Goals as goal

pub returns : goal.returns
returns c = same (c.to_le_bytes.ensures ∙ two_said c.args.v (omega (arith, c.requires))) c.put_text.ensures
