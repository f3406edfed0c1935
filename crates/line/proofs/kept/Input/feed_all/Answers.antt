use Rattle.std.proofs.Common.{arith, ◌+◌, sym, ap, drop, ◌∙◌}
use Rattle.line.specs.Input.{fed_all}
use Rattle.line.proofs.Inputs.{fed-next, fed_end}
use Rattle.line.proofs.kept.Input.feed_all.Goals as goal

pub loop-b-preserved : goal.loop-b-preserved
loop-b-preserved c = ap (fed_all (drop (c.loop-b.b-index + 1) c.args.input.now)) c.feed.ensures ∙ sym (fed-next c.args.input.now c.loop-b.b-index c.loop-b.self c.loop-b-test.true) ∙ c.loop-b.invariant

pub returns : goal.returns
returns c = fed_end c.args.input.now c.loop-b.b-index c.loop-b.self (omega arith) ∙ c.loop-b.invariant
