use Rattle.std.proofs.Common.{arith, ◌∙◌, sym, ap}
use Rattle.line.specs.Input.{longer}
use Rattle.line.proofs.Inputs.{longer_kept, longer_full}
use Rattle.line.proofs.kept.Line.push.Goals as goal

pub returns-then-self : goal.returns-then-self
returns-then-self g c = longer_kept g.row.N c.args.b c.self.inside.len c.self.inside.bytes c.self.told (omega arith) ∙ ap (longer g.row.N c.args.b) c.self.view_is

pub returns-else-self : goal.returns-else-self
returns-else-self g c = sym c.self.view_is ∙ longer_full g.row.N c.args.b c.self.inside.len c.self.inside.bytes c.self.told c.self.invariant (omega arith) ∙ ap (longer g.row.N c.args.b) c.self.view_is
