use mathlib.Core.Path.{sym, ap, ◌∙◌}
use Rattle.grammar.specs.Kinds.{node_kind, numbered, numbered-back}
use Rattle.grammar.specs.Bytes.{field}
use Rattle.tree.proofs.Spots.{spot}
use Rattle.tree.proofs.Tree.kind_at.Goals as goal

pub returns : goal.returns
returns c = let s = spot _ c.args.self.tested _ c.requires in
    c.from.ensures ∙ ap numbered (c.get16.ensures.0 ∙ ap (field c.args.self.bytes.now) c.row_from.ensures.0 ∙ s.kind) ∙ numbered-back (node_kind s.e) ∙ sym (ap node_kind s.tree)
