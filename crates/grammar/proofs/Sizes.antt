-- How many nodes a tree has, and how many bytes. Assumes nothing.
use Rattle.std.specs.Prelude.{◌≡◌, ℕ, ◌+◌, ◌*◌, ◌≤◌, length}
use Rattle.std.proofs.Common.{ap, ◌∙◌, arith, length-append}
use Rattle.grammar.specs.Expr.{Expr, Exprs, cite, Then, join, none, more, Wide, Wides, concat, citations, citations_of, count}
use Rattle.grammar.specs.Reading.{Fits, node_limit}
use Rattle.grammar.specs.Rows.{many, rows, span, spans, rows_span}
use Rattle.grammar.specs.Bytes.{head_size, row_size, cite_size, bytes_of, tree_limit}
use Rattle.grammar.proofs.Bounds.{print_room}
use Rattle.grammar.specs.Print.{printed}
use Rattle.grammar.proofs.Shape.{many_two}
use Rattle.grammar.proofs.Trees.{packed-length}

mutual
  unfolding span citations many

  -- a tree has fewer nodes than twice its citations
  pub span_bound : (e : Expr) → Wide e → span e + 1 ≤ 2 * count e
  span_bound (cite t) w = omega arith
  span_bound (Then es) w = omega (arith, spans_bound es w.1, many_two es w.0)
  span_bound (join o es) w = omega (arith, spans_bound es w.1, many_two es w.0)

  spans_bound : (es : Exprs) → Wides es → spans es + many es ≤ 2 * length (citations_of es)
  spans_bound none w = omega arith
  spans_bound (more e es) w = omega (arith, span_bound e w.0, spans_bound es w.1, length-append (citations e) (citations_of es))

-- the length of tree bytes: header, node rows, citation rows, texts
pub bytes-length : (e : Expr) → length (bytes_of e) ≡ head_size + row_size * span e + cite_size * count e + length (concat (citations e))
unfolding bytes_of
bytes-length e = packed-length (rows 0 e) (citations e) ∙ ap (λ (n : ℕ). head_size + row_size * n + cite_size * count e + length (concat (citations e))) (rows_span 0 e)

-- at most 511 nodes
pub few-nodes : (e : Expr) → Fits e → span e ≤ node_limit
few-nodes e f = omega (arith, span_bound e f.wide, f.few)

-- at most 6,150 bytes
pub few_bytes : (e : Expr) → Fits e → length (bytes_of e) ≤ tree_limit
few_bytes e f = omega (arith, bytes-length e, few-nodes e f, f.few, f.small)

mutual
  unfolding span citations

  -- a tree has a row for each citation
  pub count_span : (e : Expr) → count e ≤ span e
  count_span (cite t) = omega arith
  count_span (Then es) = omega (arith, counts_spans es)
  count_span (join o es) = omega (arith, counts_spans es)

  counts_spans : (es : Exprs) → length (citations_of es) ≤ spans es
  counts_spans none = omega arith
  counts_spans (more e es) = omega (arith, count_span e, counts_spans es, length-append (citations e) (citations_of es))

-- a print is no longer than its tree
pub print_within : (e : Expr) → Wide e → length (printed e) ≤ length (bytes_of e)
print_within e w = omega (arith, print_room e w, bytes-length e, count_span e)
