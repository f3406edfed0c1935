use Rattle.citation.specs.Kinds.{kind_of_number}
use native.Mathlib.Omega.{arith}
use Rattle.utf8.proofs.Ranges.{inside_range, below_range, above_range}
use Rattle.citation.proofs.ConditionKindFromU64.from.Goals as goal

pub returns-in-1-to-499 : goal.returns-in-1-to-499
unfolding kind_of_number
returns-in-1-to-499 c = let n = c.args.n in rw (inside_range 1 499 n (omega arith) (omega arith))

pub returns-in-500-to-899 : goal.returns-in-500-to-899
unfolding kind_of_number
returns-in-500-to-899 c = let n = c.args.n in rw (above_range 1 499 n (omega arith), inside_range 500 899 n (omega arith) (omega arith))

pub returns-in-901-to-999 : goal.returns-in-901-to-999
unfolding kind_of_number
returns-in-901-to-999 c = let n = c.args.n in rw (above_range 1 499 n (omega arith), above_range 500 899 n (omega arith), inside_range 901 999 n (omega arith) (omega arith))

pub returns-in-2000-to-2499 : goal.returns-in-2000-to-2499
unfolding kind_of_number
returns-in-2000-to-2499 c = let n = c.args.n in rw (above_range 1 499 n (omega arith), above_range 500 899 n (omega arith), above_range 901 999 n (omega arith), inside_range 2000 2499 n (omega arith) (omega arith))

pub returns-in_default : goal.returns-in_default
unfolding kind_of_number
returns-in_default c = let n = c.args.n in rw (below_range 1 499 n (omega arith), below_range 500 899 n (omega arith), below_range 901 999 n (omega arith), below_range 2000 2499 n (omega arith))

pub returns-in_default-2 : goal.returns-in_default-2
unfolding kind_of_number
returns-in_default-2 c = let n = c.args.n in rw (above_range 1 499 n (omega arith), above_range 500 899 n (omega arith), below_range 901 999 n (omega arith), below_range 2000 2499 n (omega arith))

pub returns-in_default-3 : goal.returns-in_default-3
unfolding kind_of_number
returns-in_default-3 c = let n = c.args.n in rw (above_range 1 499 n (omega arith), above_range 500 899 n (omega arith), above_range 901 999 n (omega arith), below_range 2000 2499 n (omega arith))

pub returns-in_default-4 : goal.returns-in_default-4
unfolding kind_of_number
returns-in_default-4 c = let n = c.args.n in rw (above_range 1 499 n (omega arith), above_range 500 899 n (omega arith), above_range 901 999 n (omega arith), above_range 2000 2499 n (omega arith))
