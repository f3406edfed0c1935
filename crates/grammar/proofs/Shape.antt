-- Rows that pass the row check are the rows of trees, and the rows of a tree pass it. Assumes nothing.
use Rattle.std.specs.Prelude.{◌≡◌, refl, true}
use Rattle.std.proofs.Common.{◌∙◌, add-zero, add_assoc, length-append}
use mathlib.Core.List.{List, ◌++◌, append_assoc}
use Prim.Native.Nat.{ℕ, suc, ◌+◌, ◌-◌, ◌≤◌, ◌<◌}
use native.Mathlib.Omega.{arith}
use Rattle.std.proofs.Math.ListN.{length}
use store.Seg.{eqb_same}
use borrow.Author.Tests.{lt-ltb, le-leb}
use Rattle.grammar.specs.Expr.{And, Or, Xor, Expr, Exprs, cite, Then, join, none, more, Two, Wide, Wides, citations, citations_of, count}
use Rattle.grammar.specs.Rows.{Row, row, op_kind, many, node, rows, rows_of, span, spans, rows_spans}
use Rattle.grammar.specs.Bytes.{tiles, row_ok, rows_ok}
use Rattle.grammar.specs.Shape.{size_rows, drop_rows}

-- a tree has a row
pub span_some : (e : Expr) → 0 < span e
unfolding span
span_some (cite t) = omega arith
span_some (Then es) = omega arith
span_some (join o es) = omega arith

-- the rows of trees are walked by their sizes
pub tiles_rows : (es : Exprs) (n : ℕ) (rs : List Row) → tiles (many es) (spans es) (rows_of n es ++ rs) ≡ true
unfolding tiles many spans rows_of
tiles_rows none n rs = refl
tiles_rows (more e es) n rs =
    let left : span e + spans es - span e ≡ spans es = omega arith in
    rw (append_assoc (rows n e) (rows_of (n + count e) es) rs, size_rows n e (rows_of (n + count e) es ++ rs), lt-ltb 0 (span e) (span_some e), le-leb (span e) (span e + spans es) (omega arith), left, drop_rows n e (rows_of (n + count e) es ++ rs))
    (tiles_rows es (n + count e) rs)

-- two operands or more, counted
pub many_two : (es : Exprs) → Two es → 2 ≤ many es
unfolding many
many_two (more e (more f es)) h = omega arith
many_two none h = elim h [ ]
many_two (more e none) h = elim h [ ]

node_ok : (k n m : ℕ) (es : Exprs) (rs : List Row) → k < 4 → Two es → row_ok n (row (suc k) (many es) (suc (length (rows_of m es)))) (rows_of m es ++ rs) ≡ true
unfolding row_ok
node_ok k n m es rs h w =
    let len = length-append (rows_of m es) rs in
    let less : suc (length (rows_of m es)) - 1 ≡ spans es = omega (arith, rows_spans m es) in
    rw (lt-ltb k 4 h, le-leb 2 (many es) (many_two es w), lt-ltb 0 (suc (length (rows_of m es))) (omega arith), le-leb (suc (length (rows_of m es))) (suc (length (rows_of m es ++ rs))) (omega arith), less)
    (tiles_rows es m rs)

mutual
  unfolding rows_ok row_ok rows rows_of node citations op_kind

  pub ok_rows : (e : Expr) → Wide e → (n c : ℕ) (rs : List Row) → rows_ok n c (rows n e ++ rs) ≡ rows_ok (n + count e) c rs
  ok_rows (cite t) w n c rs = let one : suc n ≡ n + 1 = omega arith in rw (eqb_same n, one)
  ok_rows (Then es) w n c rs = rw (node_ok 0 n n es rs (omega arith) w.0) (ok_rows_of es w.1 n c rs)
  ok_rows (join And es) w n c rs = rw (node_ok 1 n n es rs (omega arith) w.0) (ok_rows_of es w.1 n c rs)
  ok_rows (join Or es) w n c rs = rw (node_ok 2 n n es rs (omega arith) w.0) (ok_rows_of es w.1 n c rs)
  ok_rows (join Xor es) w n c rs = rw (node_ok 3 n n es rs (omega arith) w.0) (ok_rows_of es w.1 n c rs)

  pub ok_rows_of : (es : Exprs) → Wides es → (n c : ℕ) (rs : List Row) → rows_ok n c (rows_of n es ++ rs) ≡ rows_ok (n + length (citations_of es)) c rs
  ok_rows_of none w n c rs = rw (add-zero n)
  ok_rows_of (more e es) w n c rs =
      rw (append_assoc (rows n e) (rows_of (n + count e) es) rs, length-append (citations e) (citations_of es), ← add_assoc n (count e) (length (citations_of es)))
      (ok_rows e w.0 n c (rows_of (n + count e) es ++ rs) ∙ ok_rows_of es w.1 (n + count e) c rs)
