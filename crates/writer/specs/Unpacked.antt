-- Rows as the parser hands them over, and as a tree has them. Assumes nothing.
use Rattle.std.specs.Prelude.{ℕ, List, map}
use Rattle.grammar.specs.Rows as grammar
use Rattle.grammar.specs.Rows.{row}
use Rattle.grammar.specs.Kinds.{kind_number}
use Rattle.parser.specs.declared.Row.{Row}

-- a tree's row: kind, number and size
unfoldable pub row_of : Row → grammar.Row
row_of r = row (kind_number r.kind) r.number r.size

-- a tree's rows
abbrev pub unpacked : List Row → List grammar.Row
unpacked rs = map row_of rs

-- the row of three numbers: kind, number and size
abbrev pub numbered_row : ℕ × ℕ × ℕ → grammar.Row
numbered_row (k, m, z) = row k m z
