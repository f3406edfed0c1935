use Rattle.std.proofs.Common.{◌≡◌, drop}
use Rattle.line.specs.Input.{fed_all}
use Rattle.line.proofs.kept.Input.feed_all.Given as goal

abbrev pub invariant-loop-b : goal.invariant-loop-b
invariant-loop-b l = fed_all (drop l.b-index l.input) l.self ≡ fed_all l.input l.initial.self
