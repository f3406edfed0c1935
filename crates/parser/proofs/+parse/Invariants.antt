use mathlib.Core.Path.{◌≡◌}
use lib.ListN.{length}
use Rattle.parser.specs.States.{Running, Before, Front}
use Prim.Native.Nat.{◌+◌, ◌*◌, ◌-◌}
use Rattle.parser.proofs.+parse.Given as goal

abbrev pub decreases-parse_atom : goal.decreases-parse_atom
decreases-parse_atom l = 4 * (length l.toks.now - l.p.at)

abbrev pub decreases-parse_chain : goal.decreases-parse_chain
decreases-parse_chain l = 4 * (length l.toks.now - l.p.at) + 2

abbrev pub decreases-parse_juxtaposition : goal.decreases-parse_juxtaposition
decreases-parse_juxtaposition l = 4 * (length l.toks.now - l.p.at) + 1

abbrev pub invariant-parse_chain-loop-next : goal.invariant-parse_chain-loop-next
invariant-parse_chain-loop-next l = Before l.toks l.p l.work l.q l.op l.kids × Front l.p.rows l.initial.work l.work × (length l.work ≡ length l.initial.work)

abbrev pub decreases-parse_chain-loop-next : goal.decreases-parse_chain-loop-next
decreases-parse_chain-loop-next l = length l.toks - l.q.at

abbrev pub invariant-parse_juxtaposition-loop-work : goal.invariant-parse_juxtaposition-loop-work
invariant-parse_juxtaposition-loop-work l = Running l.toks l.p l.work l.q l.kids × Front l.p.rows l.initial.work l.work × (length l.work ≡ length l.initial.work)

abbrev pub decreases-parse_juxtaposition-loop-work : goal.decreases-parse_juxtaposition-loop-work
decreases-parse_juxtaposition-loop-work l = length l.toks - l.q.at
