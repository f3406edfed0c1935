use native.Mathlib.Omega.{arith}
use mathlib.Core.Path.{ap, ◌∙◌}
use Rattle.grammar.specs.Bytes.{field}
use Rattle.tree.proofs.Cites.{text_inside}
use Rattle.tree.proofs.Tree.text_start.Goals as goal

pub returns : goal.returns
returns c =
    let b = c.args.self.bytes.now in
    let read = c.get16.ensures.0 ∙ ap (field b) c.cite_from.ensures.0 in
    omega (arith, read, c.node_count.ensures.0, c.cite_count.ensures.0, text_inside b c.args.self.tested c.args.number c.requires)
