use native.Mathlib.Omega.{arith}
use mathlib.Core.Path.{◌≡◌, ◌∙◌}
use mathlib.Core.Bool.{true}
use lib.ListN.{length}
use Rattle.lexer.proofs.Runs.{space_on, run_out}
use Rattle.lexer.proofs.spaces_end.Goals as goal

pub loop-j-preserved : goal.loop-j-preserved
loop-j-preserved c = space_on c.args.text.now c.loop-j.j (omega arith) c.if-text-j-ne32.false ∙ c.loop-j.invariant

pub returns : goal.returns
returns c =
    let s = c.args.text.now in
    let e : length s ≡ c.loop-j.j = omega arith in
    e ∙ run_out true s c.loop-j.j (omega arith) ∙ c.loop-j.invariant
