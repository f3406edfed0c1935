use Prim.Native.Nat.{◌-◌, ◌≤◌}
use mathlib.Core.Path.{◌≡◌}
use mathlib.Core.Bool.{Bool}
use lib.ListN.{length}
use Rattle.lexer.specs.Runs.{run_end, GoesOn}
use Rattle.lexer.proofs.run_while.Given as goal

abbrev pub invariant-loop-place : goal.invariant-loop-place
invariant-loop-place g l = let it = l.place-iterator in
    (it.text.now ≡ l.text) × (l.at ≤ it.at) × (it.at - l.at ≤ length l.text - l.at) × ((w : Bool) → GoesOn w (goal.F-post g l.on) → run_end w l.text it.at ≡ run_end w l.text l.at)
