-- The 256 marks of condition 918: one test over the whole table, which is computed, and the rule at each of its entries. Assumes nothing.
use Prim.Native.Nat.{ℕ, ◌<◌}
use mathlib.Core.Path.{◌≡◌}
use mathlib.Core.Bool.{Bool, true, false}
use mathlib.Core.List.{List, ◌++◌}
use lib.ListN.{get_or, replicate}
use lib.Dec.{T}
use Rattle.laws.specs.Tests.{agree, agreed}
use Rattle.laws.specs.Tables.{every, at}
use Rattle.formats.specs.Rules.{is_unoc_upper}

-- so many admitted, or not admitted, one after the other
abbrev yes : ℕ → List Bool
yes n = replicate n true

abbrev no : ℕ → List Bool
no n = replicate n false

-- the marks of the code's table, by the Latin-1 code
unfoldable pub marks : List Bool
marks = no 32 ++ (yes 65 ++ (no 26 ++ (yes 4 ++ (no 33 ++ (yes 10 ++ (no 1 ++ (yes 10 ++ (no 1 ++ (yes 4 ++ (no 1 ++ (yes 36 ++ (no 24 ++ (yes 1 ++ no 8)))))))))))))

-- a mark says what the rule says
abbrev pub right : ℕ → Bool → Bool
right k mark = agree mark (is_unoc_upper k)

-- the test over the table
pub unoc_upper_table : T (every right 0 marks)
unfolding marks is_unoc_upper
unoc_upper_table = tt

-- the rule at each entry
pub unoc_upper_at : (k : ℕ) → k < 256 → get_or marks k false ≡ is_unoc_upper k
unfolding marks
unoc_upper_at k h = agreed (get_or marks k false) (is_unoc_upper k) (at right marks false unoc_upper_table k h)
