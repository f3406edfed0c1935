use native.Mathlib.Omega.{arith}
use mathlib.Core.Path.{ap, ◌∙◌}
use lib.ListN.{drop_of_length-le}
use Rattle.utf8.specs.Utf8.{is_utf8}
use Rattle.utf8.proofs.Laws.{utf8_nil}
use Rattle.lexer.specs.State.{Ahead}
use Rattle.lexer.proofs.TokensIterator.next.Goals.{in-Ok-Space, in-Ok-Mark, in-Ok-Cite, in-Err}
use Rattle.lexer.proofs.TokensIterator.next.Goals as goal

pub returns-clause-goes : goal.returns-clause-goes
returns-clause-goes c =
    let s = c.args.self.now.text.now in
    let e = c.token_at-token.ensures in
    let a : Ahead s c.args.self.now.at c.match-token.self = elim c.match-token.branch [
      | in-Ok-Space w ↦ let b = rw (w.in-Ok-Space.is, rw w.in-Ok-Space.is at w.in-Ok-Space.field-0-is) at e in rw w.self-is b.0
      | in-Ok-Mark w ↦ let b = rw (w.in-Ok-Mark.is, rw w.in-Ok-Mark.is at w.in-Ok-Mark.field-0-is) at e in rw w.self-is b.ahead
      | in-Ok-Cite w ↦ let b = rw (w.in-Ok-Cite.is, rw w.in-Ok-Cite.is at w.in-Ok-Cite.field-0-is) at e in rw w.self-is (record { later = omega (arith, b.later, b.order); room = b.ahead.room; well = b.ahead.well })
      | in-Err w ↦ rw w.self-is (record { later = omega (arith, c.if-self.false); room = omega arith; well = ap is_utf8 (drop_of_length-le s (omega arith)) ∙ utf8_nil })
    ] in
    record { on = λ _. (a.well, _, omega (arith, a.later, a.room)); keeps = a.well; rests = _ }
