use Rattle.std.proofs.Common.{rules}
use Rattle.decimal.specs.Decimal.{integer_of}
use Rattle.decimal.proofs.integer.Goals as goal

pub returns : goal.returns
unfolding integer_of
returns c = search rules
