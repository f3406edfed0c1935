use lib.ListN.{take}
use Rattle.fields.specs.Appended.{Appended}
use Rattle.grammar.specs.Expr.{concat}
use Rattle.lexer.specs.Tokens.{cuts}
use Rattle.writer.proofs.put_texts.Given as goal

abbrev pub invariant-loop-place : goal.invariant-loop-place
invariant-loop-place l = Appended (concat (cuts l.text (take l.place-index l.places))) l.at l.initial.out l.out l.w
