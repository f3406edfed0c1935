-- What stands at a row of tree bytes. Assumes nothing.
use Rattle.std.specs.Prelude.{List, [], ℕ, ◌+◌, ◌-◌, ◌*◌, length, get_or}
use Rattle.grammar.specs.Expr.{citations_of}
use Rattle.grammar.specs.Bytes.{head_size, row_size, cite_size, field, cites, cites_at, texts_at, texts_in, forest_at}

-- the byte at which the row i begins
abbrev pub row_from : ℕ → ℕ
row_from i = head_size + row_size * i

-- the number in the row i: of children, or the citation's number
abbrev pub number_at : List ℕ → ℕ → ℕ
number_at b i = field b (row_from i + 2)

-- the number of the first citation from the row i on
unfoldable pub first_at : List ℕ → ℕ → ℕ
first_at b i = cites b - length (citations_of (forest_at b i))

-- the text of the citation n
unfoldable pub text_at : List ℕ → ℕ → List ℕ
text_at b n = get_or (texts_in b) n []

-- the byte at which the row of the citation n begins
abbrev pub cite_from : List ℕ → ℕ → ℕ
cite_from b n = cites_at b + cite_size * n

-- the byte at which its text begins, by its row
abbrev pub text_from : List ℕ → ℕ → ℕ
text_from b n = texts_at b + field b (cite_from b n)

-- its text's length, by its row
abbrev pub text_size : List ℕ → ℕ → ℕ
text_size b n = field b (cite_from b n + 2)
