use borrow.Author.Rules.{rules}
use borrow.Author.Tests.{tests}
use mathlib.Core.Path.{◌∙◌}
use lib.Dec.{leb}
use Rattle.std.proofs.lemmas.Iterator.{YieldsList-from_slice}
use Rattle.std.proofs.lemmas.Iterator.Search.{all_from_yields_List}
use Rattle.text.proofs.Laws.{all_is_all}
use Rattle.semantics.specs.Presence.{failed}
use Rattle.presence.proofs.all_fit.Goals as goal

pub returns : goal.returns
returns c = let s = c.args.answers.now in
    all_from_yields_List (λ b. leb b failed) _ _ c.all.result c.all.ensures.ran (YieldsList-from_slice s cc) (λ x b q k. search (rules, tests)) ∙ all_is_all (λ b. leb b failed) s
