-- Where a citation's text stands in tree bytes. Assumes nothing.
use Rattle.std.specs.Prelude.{List, [], cond, ℕ, ◌+◌, ltb, length, get_or, take, Result, Option, Some, None}
use Rattle.refusal.specs.declared.Refusal.{Refusal}
use Rattle.refusal.specs.Result.{map_ok}
use Rattle.grammar.specs.Expr.{Expr, concat, citations, count}
use Rattle.grammar.specs.Rows.{span}
use Rattle.grammar.specs.Bytes.{texts_from, tree_of}

-- the first byte of the citation n's text in the bytes of an expression: after header, rows and the texts before it
abbrev pub place_of : Expr → ℕ → ℕ
place_of e n = texts_from (span e) (count e) + length (concat (take n (citations e)))

-- that place and the text's length; none if there are not so many citations
unfoldable pub cited_place : ℕ → Expr → Option (ℕ × ℕ)
cited_place n e = cond (ltb n (count e)) (Some (place_of e n, length (get_or (citations e) n []))) None

-- `cited`: 15
unfoldable pub cited_answer : (tree : List ℕ) (number : ℕ) → Result (Option (ℕ × ℕ)) Refusal
cited_answer tree number = map_ok (cited_place number) (tree_of tree)
