-- The three lines of an input, and what is kept of them byte by byte. Assumes nothing.
use Rattle.std.specs.Prelude.{List, [], ◌∷◌, ◌++◌, cond, ℕ, zero, suc, ◌+◌, eqb, ltb, length}
use Rattle.line.specs.Sizes.{kept_status, kept_answers, kept_value}
use Rattle.line.specs.Lines.{line_feed, lines}

-- the first line of an input: it ends before its line feed, or with the input
unfoldable pub first_line : List ℕ → List ℕ
first_line [] = []
first_line (b ∷ s) = cond (eqb b line_feed) [] (b ∷ first_line s)

-- what stands after the first line feed
unfoldable pub after_line : List ℕ → List ℕ
after_line [] = []
after_line (b ∷ s) = cond (eqb b line_feed) s (after_line s)

-- the line with a number, from 0; a missing line is empty
unfoldable pub line_at : ℕ → List ℕ → List ℕ
line_at zero s = first_line s
line_at (suc k) s = line_at k (after_line s)

-- the lines that `ahbline` writes for an input
abbrev pub input_lines : List ℕ → List ℕ
input_lines input = lines (line_at 0 input) (line_at 1 input) (line_at 2 input)

-- what is kept of an input: the number of the line it is in, at most 3, and its first three lines as far as they decide
pub record Kept : Type 0 where
  pub row : ℕ
  pub status : List ℕ
  pub answers : List ℕ
  pub value : List ℕ

-- nothing yet
abbrev pub no_input : Kept
no_input = record { row = 0; status = []; answers = []; value = [] }

-- a line with one byte more, unless it is full
unfoldable pub longer : (most b : ℕ) → List ℕ → List ℕ
longer most b t = cond (ltb (length t) most) (t ++ (b ∷ [])) t

-- after a line feed
abbrev pub next_row : ℕ → ℕ
next_row row = cond (ltb row 3) (row + 1) row

-- after any other byte
abbrev pub with_byte : ℕ → Kept → Kept
with_byte b h =
    cond (eqb h.row 0) (record { row = h.row; status = longer kept_status b h.status; answers = h.answers; value = h.value })
    (cond (eqb h.row 1) (record { row = h.row; status = h.status; answers = longer kept_answers b h.answers; value = h.value })
    (cond (eqb h.row 2) (record { row = h.row; status = h.status; answers = h.answers; value = longer kept_value b h.value })
    h))

-- after one byte
unfoldable pub fed : ℕ → Kept → Kept
fed b h = cond (eqb b line_feed) (record { row = next_row h.row; status = h.status; answers = h.answers; value = h.value }) (with_byte b h)

-- after the bytes of an input
unfoldable pub fed_all : List ℕ → Kept → Kept
fed_all [] h = h
fed_all (b ∷ s) h = fed_all s (fed b h)
