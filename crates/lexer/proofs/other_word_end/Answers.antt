use Rattle.lexer.proofs.Runs.{space_off}
use Rattle.lexer.proofs.other_word_end.Goals as goal

pub returns-then-text-at-eq32 : goal.returns-then-text-at-eq32
returns-then-text-at-eq32 c = space_off c.args.text.now c.args.at c.requires c.if-text-at-eq32.true
