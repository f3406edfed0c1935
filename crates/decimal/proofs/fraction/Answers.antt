use Rattle.std.proofs.Common.{rules, arith, [], ◌∷◌}
use Rattle.text.proofs.Laws.{place_le}
use Rattle.decimal.specs.Decimal.{fraction_of}
use Rattle.decimal.proofs.fraction.Goals as goal

pub overflow_add-find : goal.overflow_add-find
overflow_add-find c = omega (arith, place_le (46 ∷ []) c.unsigned-u.result.now)

pub returns : goal.returns
unfolding fraction_of
returns c = search rules
