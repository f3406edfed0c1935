-- Rows in postorder and in the order of the tree. Assumes nothing.
use mathlib.Core.Path.{◌≡◌, refl, sym, ap, ◌∙◌}
use mathlib.Core.List.{List, [], ◌∷◌, ◌++◌, append_assoc, append-nil}
use Prim.Native.Nat.{ℕ, suc, ◌+◌, ◌≤◌}
use native.Mathlib.Nat.{add-zero}
use native.Mathlib.Omega.{arith}
use lib.ListN.{length, length-append}
use Rattle.grammar.specs.Expr.{Op, And, Or, Xor, Expr, Exprs, cite, join, none, more, ◌◂◌, ◌⧺◌, ◌▸◌, citations, citations_of, count, citations_append}
use Rattle.grammar.specs.Expr as expr
use Rattle.grammar.specs.Rows as grammar
use Rattle.grammar.specs.Rows.{row, cite_kind, then_kind, op_kind, many, node, rows, rows_of, span, spans, children, rows_spans}
use Rattle.grammar.specs.Kinds.{sign_kind, node_kind, numbered, numbered-sign}
use Rattle.grammar.specs.declared.NodeKind.TheVariants.{Citation, Then}
use Rattle.parser.specs.Packed.{pack, packed, child_count, node_row, postorder, postorders}
use Rattle.parser.specs.declared.Row.{Row}

mutual
  unfolding postorder span

  pub postorder_span : (n : ℕ) (e : Expr) → length (postorder n e) ≡ span e
  postorder_span n (cite t) = refl
  postorder_span n (expr.Then es) = length-append (postorders n es) _ ∙ rw (postorder_spans n es) (omega arith)
  postorder_span n (join o es) = length-append (postorders n es) _ ∙ rw (postorder_spans n es) (omega arith)

  pub postorder_spans : (n : ℕ) (es : Exprs) → length (postorders n es) ≡ spans es
  postorder_spans n none = refl
  postorder_spans n (more e es) = length-append (postorder n e) _ ∙ rw (postorder_span n e, postorder_spans (n + count e) es)

-- operands before others

pub spans_append : (a b : Exprs) → spans (a ⧺ b) ≡ spans a + spans b
unfolding spans ◌⧺◌
spans_append none b = omega arith
spans_append (more e a) b = rw (spans_append a b) (omega arith)

pub many_append : (a b : Exprs) → many (a ⧺ b) ≡ many a + many b
unfolding many ◌⧺◌
many_append none b = omega arith
many_append (more e a) b = rw (many_append a b) (omega arith)

pub cites_append : (a b : Exprs) → length (citations_of (a ⧺ b)) ≡ length (citations_of a) + length (citations_of b)
cites_append a b = rw (citations_append a b) (length-append (citations_of a) (citations_of b))

further : (n : ℕ) (e : Expr) (a : Exprs) → n + count e + length (citations_of a) ≡ n + length (citations_of (e ◂ a))
unfolding citations
further n e a = omega (arith, length-append (citations e) (citations_of a))

pub postorders_append : (n : ℕ) (a b : Exprs) → postorders n (a ⧺ b) ≡ postorders n a ++ postorders (n + length (citations_of a)) b
unfolding postorder ◌⧺◌ citations
postorders_append n none b = rw (add-zero n)
postorders_append n (more e a) b =
    ap (λ x. postorder n e ++ x) (postorders_append (n + count e) a b)
    ∙ ap (λ x. postorder n e ++ (postorders (n + count e) a ++ postorders x b)) (further n e a)
    ∙ sym (append_assoc (postorder n e) (postorders (n + count e) a) _)

-- as many of the one as of the other
pub packed-length : (rs : List grammar.Row) → length (packed rs) ≡ length rs
unfolding packed
packed-length [] = refl
packed-length (row k m z ∷ rs) = ap suc (packed-length rs)

pub packed_append : (a b : List grammar.Row) → packed (a ++ b) ≡ packed a ++ packed b
unfolding packed
packed_append [] b = refl
packed_append (row k m z ∷ a) b = rw (packed_append a b)

-- one operand

pub postorder_one : (n : ℕ) (e : Expr) → postorders n (e ◂ none) ≡ postorder n e
unfolding postorder
postorder_one n e = append-nil (postorder n e)

pub rows_one : (n : ℕ) (e : Expr) → rows_of n (e ◂ none) ≡ rows n e
unfolding rows
rows_one n e = append-nil (rows n e)

pub span_one : (e : Expr) → spans (e ◂ none) ≡ span e
unfolding spans
span_one e = add-zero (span e)

pub count_one : (e : Expr) → length (citations_of (e ◂ none)) ≡ count e
unfolding citations
count_one e = ap length (append-nil (citations e))

pub cite_span : (t : List ℕ) → spans (cite t ◂ none) ≡ 1
unfolding spans
cite_span t = refl

pub cite_count : (t : List ℕ) → length (citations_of (cite t ◂ none)) ≡ 1
unfolding citations
cite_count t = refl

pub many_one : (e : Expr) → many (e ◂ none) ≡ 1
unfolding many
many_one e = refl

-- the last of operands
pub record Last (es : Exprs) : Type 0 where
  pub before : Exprs
  pub last : Expr
  pub is : es ≡ before ▸ last
  pub number : many es ≡ many before + 1

last_after : (e : Expr) (es : Exprs) → Last (e ◂ es)
unfolding many ◌⧺◌
last_after e none = record { before = none; last = e; is = refl; number = refl }
last_after e (more f es) =
    let r = last_after f es in
    record { before = e ◂ r.before; last = r.last; is = ap (more e) r.is; number = omega (arith, r.number) }

pub last_of : (es : Exprs) → 1 ≤ many es → Last es
unfolding many
last_of none h = absurd (omega arith)
last_of (more e es) h = last_after e es

-- a tree's own row
pub record Root (n : ℕ) (e : Expr) : Type 0 where
  pub number : ℕ
  pub value : Row
  pub after : postorder n e ≡ postorders n (children e) ++ (value ∷ [])
  pub ahead : packed (rows n e) ≡ value ∷ packed (rows_of n (children e))
  pub sized : span e ≡ suc (spans (children e))
  pub counted : n + length (citations_of (children e)) ≤ n + count e
  pub is : value ≡ pack (node_kind e) number (span e)
  pub counts : child_count (node_kind e) number ≡ many (children e)

node-packed : (k : ℕ) (n : ℕ) (es : Exprs) → packed (node k (many es) (rows_of n es)) ≡ node_row (numbered k) es ∷ packed (rows_of n es)
unfolding node packed
node-packed k n es = rw (rows_spans n es)

then_packed : (n : ℕ) (es : Exprs) → packed (node then_kind (many es) (rows_of n es)) ≡ node_row Then es ∷ packed (rows_of n es)
unfolding numbered
then_packed n es = node-packed then_kind n es

join_packed : (o : Op) (n : ℕ) (es : Exprs) → packed (node (op_kind o) (many es) (rows_of n es)) ≡ node_row (sign_kind o) es ∷ packed (rows_of n es)
join_packed o n es = node-packed (op_kind o) n es ∙ ap (λ k. node_row k es ∷ packed (rows_of n es)) (numbered-sign o)

cite_packed : (n : ℕ) → packed (row cite_kind n 1 ∷ []) ≡ pack Citation n 1 ∷ packed []
unfolding packed numbered
cite_packed n = refl

sign_counts : (o : Op) (m : ℕ) → child_count (sign_kind o) m ≡ m
unfolding sign_kind
sign_counts And m = refl
sign_counts Or m = refl
sign_counts Xor m = refl

pub root : (n : ℕ) (e : Expr) → Root n e
unfolding postorder rows span children citations node_kind many
root n (cite t) = record {
  number = n;
  value = pack Citation n 1;
  after = refl;
  ahead = cite_packed n;
  sized = refl;
  counted = omega arith;
  is = refl;
  counts = refl;
}
root n (expr.Then es) = record {
  number = many es;
  value = node_row Then es;
  after = refl;
  ahead = then_packed n es;
  sized = refl;
  counted = omega arith;
  is = refl;
  counts = refl;
}
root n (join o es) = record {
  number = many es;
  value = node_row (sign_kind o) es;
  after = refl;
  ahead = join_packed o n es;
  sized = refl;
  counted = omega arith;
  is = refl;
  counts = sign_counts o (many es);
}
