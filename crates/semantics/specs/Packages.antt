-- Package rows: the bounds of the Paket citations (docs/SEMANTICS.md, 'Package bounds'; docs/FORMAT.md for their bytes). Assumes nothing.
use Rattle.std.specs.Prelude.{List, [], ◌∷◌, ◌++◌, Bool, true, false, cond, ℕ, zero, suc, ◌/◌, ◌%◌, Result, Ok, Err, is_some, unwrap_or}
use Rattle.citation.specs.declared.ConditionKind.{ConditionKind}
use Rattle.citation.specs.declared.ConditionKind.TheVariants as kinds
use Rattle.citation.specs.Kinds.{kind_of}
use Rattle.citation.specs.declared.Paket.{Paket}
use Rattle.citation.specs.Pakete.{paket_of}
use Rattle.grammar.specs.Expr.{Expr, citations}
use Rattle.grammar.specs.Bytes.{two_bytes}
use Rattle.refusal.specs.declared.Refusal.{Refusal}

-- the kind is Paket
abbrev pub is_paket : ConditionKind → Bool
is_paket kinds.Voraussetzung = false
is_paket kinds.Hinweis = false
is_paket kinds.Format = false
is_paket kinds.Wiederholbarkeit = false
is_paket kinds.Zeitpunkt = false
is_paket kinds.Paket = true
is_paket kinds.Other = false

-- a number as so many bytes, little-endian
unfoldable pub bytes_up_to : (width : ℕ) → ℕ → List ℕ
bytes_up_to zero n = []
bytes_up_to (suc width) n = (n % 256) ∷ bytes_up_to width (n / 256)

-- the bytes of a package row
abbrev pub paket_size : ℕ
paket_size = 19

-- the mark of an upper bound
abbrev pub mark_of : Bool → ℕ
mark_of true = 1
mark_of false = 0

-- the bytes of a package row: citation number, low, mark, and high or 0
unfoldable pub paket_bytes : ℕ → Paket → List ℕ
paket_bytes n p = two_bytes n ++ (bytes_up_to 8 p.low ++ (mark_of (is_some p.high) ∷ bytes_up_to 8 (unwrap_or p.high 0)))

-- the row of a Paket that was read; an unreadable one has none
abbrev pub read_row : ℕ → Result Paket Refusal → List (List ℕ)
read_row n (Ok p) = paket_bytes n p ∷ []
read_row n (Err k) = []

-- the row of the citation with the number n, if its kind is Paket
abbrev pub row_of : ℕ → List ℕ → List (List ℕ)
row_of n t = cond (is_paket (kind_of t)) (read_row n (paket_of t)) []

-- the rows of texts, numbered from n on
unfoldable pub rows_of : ℕ → List (List ℕ) → List (List ℕ)
rows_of n [] = []
rows_of n (t ∷ ts) = row_of n t ++ rows_of (suc n) ts

-- the package rows of an expression: of its citations alone
unfoldable pub pakete : Expr → List (List ℕ)
pakete e = rows_of 0 (citations e)
