use mathlib.Core.Path.{ap, ◌∙◌}
use Rattle.text.specs.Bytes.{begins}
use Rattle.text.proofs.Laws.{starts_is_begins}
use Rattle.text.proofs.begins_at.Goals as goal

pub returns : goal.returns
returns c = let t = c.args.text.now in
    c.starts_with.ensures.value ∙ starts_is_begins t c.tail.result.now ∙ ap (begins t) c.tail.ensures
