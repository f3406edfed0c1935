-- An order of sizes, made one of signed numbers, as the code does. `proofs/Orders.antt` shows that it agrees with `order_of`. Assumes nothing.
use Rattle.std.specs.Prelude.{Bool, true, false, cond}
use Rattle.std.specs.declared.cmp.Ordering.{Ordering}
use Rattle.std.specs.declared.cmp.Ordering.TheVariants.{Less, Equal, Greater}
use Rattle.std.specs.Ordering.{ordering_reverse}

-- sizes of which one is counted down and the other up, so that they differ unless both are 0
abbrev pub apart : Ordering → Bool → Ordering → Ordering
apart Less zero o = o
apart Equal zero o = cond zero Equal o
apart Greater zero o = o

-- the order of signed numbers: `minus` and `below` say which of the two is below zero, `zero` that the second size is 0
abbrev pub by_sign : Ordering → Bool → Bool → Bool → Ordering
by_sign o true true zero = ordering_reverse o
by_sign o true false zero = apart o zero Less
by_sign o false true zero = apart o zero Greater
by_sign o false false zero = o
