use Rattle.std.proofs.Common.{rules, ◌∙◌, refl, ap}
use lib.Dec.{eqb}
use Rattle.std.proofs.lemmas.Iterator.Consumers.{nth_from_yields_List}
use Rattle.std.proofs.lemmas.Iterator.Splits.{YieldsList-from_slice_split}
use Rattle.protocol.proofs.Pieces.{pieces_at}
use Rattle.protocol.proofs.piece.Goals as goal

pub returns-clause-result_value : goal.returns-clause-result_value
returns-clause-result_value c =
    ap (λ r. r.now) c.unwrap_or.ensures ∙ pieces_at c.args.line.now c.args.number c.nth.result _ (nth_from_yields_List c.nth.result _ c.args.number c.nth.ensures.ran (YieldsList-from_slice_split _ (λ b. eqb b 32) c.args.line.now c.split.ensures.rest c.split.ensures.done c.split.ensures.closure (λ x b q k. search rules))) refl
