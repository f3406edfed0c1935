use borrow.Author.Rules.{rules}
use borrow.Author.Tests.{tests}
use mathlib.Core.Path.{◌∙◌}
use Rattle.std.proofs.lemmas.Iterator.{YieldsList-from_slice}
use Rattle.std.proofs.lemmas.Iterator.Search.{all_from_yields_List}
use Rattle.text.specs.Digits.{is_digit}
use Rattle.text.proofs.Laws.{all_is_all}
use Rattle.text.proofs.each_digit.Goals as goal

pub returns : goal.returns
returns c = let s = c.args.s.now in
    all_from_yields_List is_digit _ _ c.all.result c.all.ensures.ran (YieldsList-from_slice s cc) (λ x b q k. search (rules, tests)) ∙ all_is_all is_digit s
