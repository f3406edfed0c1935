use mathlib.Core.Path.{◌≡◌}
use lib.ListN.{length, drop}
use Rattle.lexer.specs.State.{State}
use Rattle.lexer.proofs.lex_all.Given as goal

abbrev pub invariant-loop-token : goal.invariant-loop-token
invariant-loop-token l =
    let it = l.token-iterator in
    (it.text.now ≡ l.text.bytes.now) × (length l.kinds ≡ length l.initial.kinds) × (length l.places ≡ length l.initial.places) × State l.text.bytes.now l.kinds l.places it.at l.p × (drop l.p.tokens l.kinds ≡ drop l.p.tokens l.initial.kinds) × (drop l.p.cites l.places ≡ drop l.p.cites l.initial.places)
