use native.Mathlib.Omega.{arith}
use mathlib.Core.Path.{sym, ◌∙◌}
use lib.ListN.{replicate}
use Rattle.std.proofs.lemmas.Bool.{not-false}
use Rattle.text.proofs.Laws.{equals_is_same, same_equal}
use Rattle.grammar.specs.Lex.{blank_char}
use Rattle.lexer.proofs.Runs.{past_more}
use Rattle.lexer.proofs.past_eights.Goals as goal

pub loop-eight-preserved : goal.loop-eight-preserved
loop-eight-preserved c =
    let f = c.in-Some.ensures.cases in
    let spaces = replicate 8 blank_char in
    let e = same_equal spaces c.in-Some.eight.now (sym (equals_is_same spaces c.in-Some.eight.now) ∙ not-false _ (sym c.ne.ensures ∙ c.if-ne.false)) in
    rw f.1 (past_more c.args.text.now c.args.at _ c.loop-eight.invariant 8 (omega (arith, f.2)) (sym f.0 ∙ sym e))
