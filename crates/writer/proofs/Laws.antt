-- What is written is the tree of an expression, if the rows and texts are its own. Assumes nothing.
use mathlib.Core.Path.{◌≡◌}
use mathlib.Core.List.{List, ◌++◌}
use Prim.Native.Nat.{ℕ}
use lib.ListN.{length}
use Rattle.grammar.specs.Expr.{Expr, concat, citations}
use Rattle.std.specs.Prelude.{map}
use Rattle.std.proofs.lemmas.List.{length-map}
use Rattle.grammar.specs.Rows as grammar
use Rattle.grammar.specs.Rows.{rows}
use Rattle.grammar.specs.Bytes.{head_bytes, row_bytes, cite_bytes, packed, bytes_of}
use Rattle.lexer.specs.Tokens.{cuts}
use Rattle.lexer.specs.declared.Place.{Place}
use Rattle.parser.specs.declared.Row.{Row}
use Rattle.writer.specs.Unpacked.{unpacked}
use Rattle.writer.proofs.Rows.{cuts-count}

-- header, node rows, citation rows and texts are a tree
pub all-packed : {A : Type 0} (f : A → grammar.Row) (vs : List A) (s : List ℕ) (ps : List Place) (t : ℕ) → t ≡ length (concat (cuts s ps))
    → head_bytes (length vs) (length ps) t ++ (row_bytes (map f vs) ++ (cite_bytes 0 (cuts s ps) ++ concat (cuts s ps))) ≡ packed (map f vs) (cuts s ps)
unfolding packed
all-packed f vs s ps t e = rw (length-map vs f, cuts-count s ps, e)

-- the tree of an expression whose rows and texts these are
pub packed-bytes : (e : Expr) (rs : List Row) (s : List ℕ) (ps : List Place) → unpacked rs ≡ rows 0 e → cuts s ps ≡ citations e → packed (unpacked rs) (cuts s ps) ≡ bytes_of e
unfolding bytes_of
packed-bytes e rs s ps h k = rw (h, k)
