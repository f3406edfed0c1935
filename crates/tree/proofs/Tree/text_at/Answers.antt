use mathlib.Core.Path.{sym, ◌∙◌}
use Rattle.tree.proofs.Cites.{text_is}
use Rattle.tree.proofs.Tree.text_at.Goals as goal

pub returns : goal.returns
returns c =
    c.between.ensures ∙ rw (c.text_start.ensures.0, c.text_size.ensures.0) (sym (text_is c.args.self.bytes.now c.args.self.tested c.args.number c.requires))
