use Rattle.std.proofs.Common.{ℕ, ◌+◌, sym, ap, ◌∙◌}
use Rattle.grammar.specs.Rows.{span}
use Rattle.grammar.specs.Bytes.{field}
use Rattle.tree.proofs.Spots.{spot}
use Rattle.tree.proofs.Tree.size_at.Goals as goal

pub returns : goal.returns
returns c = let s = spot _ c.args.self.tested _ c.requires in
    (c.get16.ensures.0 ∙ ap (λ (x : ℕ). field c.args.self.bytes.now (x + 4)) c.row_from.ensures.0 ∙ s.size ∙ sym (ap span s.tree), c.get16.ensures.1)
