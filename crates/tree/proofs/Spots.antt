-- What stands at a row of a tree: one law for every walk over rows. Assumes nothing.
use mathlib.Core.Path.{◌≡◌, refl, sym, ap, ◌∙◌, subst}
use mathlib.Core.List.{List, [], ◌∷◌, ◌++◌}
use mathlib.Core.Bool.{true}
use Prim.Native.Nat.{ℕ, zero, suc, ◌+◌, ◌-◌, ◌*◌, ◌≤◌, ◌<◌}
use native.Mathlib.Omega.{arith}
use lib.ListN.{length, drop, length-append, length-drop}
use Rattle.laws.specs.Tests.{and_both}
use Rattle.grammar.specs.Expr.{Expr, Exprs, cite, Then, join, none, more, ◌◂◌, ◌⧺◌, Wide, Wides, citations, citations_of, count}
use Rattle.grammar.specs.Rows.{Row, row, many, node, rows, rows_of, span, children, first, build, rows_span, rows_spans, below, next-tree}
use Rattle.grammar.proofs.Rows.{builds}
use Rattle.grammar.specs.Bytes.{head_size, row_size, field, nodes, cites, cites_at, texts_at, row_at, rows_from, rows_in, texts_in, row_ok, counted, rows_ok, is_tree, forest_at, tree_at}
use Rattle.grammar.specs.Shape.{Shape, shape}
use Rattle.grammar.specs.Pack.{rows_length, texts-length}
use Rattle.grammar.proofs.Trees.{tests}
use Rattle.grammar.specs.Kinds.{node_kind, kind_number, sign-number}
use Rattle.tree.specs.Walk.{row_from, number_at, first_at}
use Rattle.tree.proofs.Steps.{drop-from}

-- the number in the row of an expression whose first citation has the number n
abbrev pub row_number : ℕ → Expr → ℕ
row_number n (cite t) = n
row_number n (Then es) = many es
row_number n (join o es) = many es

rows_head : (n : ℕ) (e : Expr) → rows n e ≡ row (kind_number (node_kind e)) (row_number n e) (span e) ∷ rows_of n (children e)
unfolding rows node node_kind kind_number span children rows_of
rows_head n (cite t) = refl
rows_head n (Then es) = rw (rows_spans n es)
rows_head n (join o es) = rw (rows_spans n es, sign-number o)

suffix : (c n : ℕ) (rs : List Row) → rows_ok n c rs ≡ true → (i : ℕ) → i ≤ length rs → (m : ℕ) × (rows_ok m c (drop i rs) ≡ true)
unfolding rows_ok
suffix c n rs h zero l = (n, h)
suffix c n [] h (suc i) l = absurd (omega arith)
suffix c n (r ∷ rs) h (suc i) l = suffix c (counted n r) rs (and_both (row_ok n r rs) (rows_ok (counted n r) c rs) h).1 i (omega arith)

-- the expression e stands at the row i, and the trees st after it; its first citation has the number n
pub record Spot (b : List ℕ) (i : ℕ) : Type 0 where
  pub e : Expr
  pub st : Exprs
  pub n : ℕ
  pub tree : tree_at b i ≡ e
  pub forest : forest_at b i ≡ e ◂ st
  pub below : forest_at b (i + 1) ≡ children e ⧺ st
  pub after : forest_at b (i + span e) ≡ st
  pub kind : field b (row_from i) ≡ kind_number (node_kind e)
  pub number : number_at b i ≡ row_number n e
  pub size : field b (row_from i + 4) ≡ span e
  pub wide : Wide e
  pub cited : drop n (texts_in b) ≡ citations e ++ citations_of st
  pub first : n ≡ first_at b i
  pub total : n + (count e + length (citations_of st)) ≡ cites b
  pub inside : i + span e ≤ nodes b

-- as many texts as the header says
pub texts-count : (b : List ℕ) → length (texts_in b) ≡ cites b
texts-count b = texts-length b (cites b) (cites_at b) (texts_at b)

-- the trees from a row on are those that its rows stand for
pub found : (b : List ℕ) (i : ℕ) (st : Exprs) → build (texts_in b) (rows_from b (nodes b - i) (row_from i)) ≡ st → forest_at b i ≡ st
unfolding forest_at
found b i st h = h

rows_at : (b : List ℕ) (i k j : ℕ) → j ≡ i + k → j ≤ nodes b → drop k (rows_from b (nodes b - i) (row_from i)) ≡ rows_from b (nodes b - j) (row_from j)
rows_at b i k j e l =
    let left : nodes b - i - k ≡ nodes b - j = omega arith in
    let from : row_from i + row_size * k ≡ row_from j = omega arith in
    drop-from b k (nodes b - i) (row_from i) (omega arith) ∙ ap (λ (x : ℕ). rows_from b x (row_from i + row_size * k)) left ∙ ap (λ (x : ℕ). rows_from b (nodes b - j) x) from

row_same : (k m z k' m' z' : ℕ) (x y : List Row) → row k m z ∷ x ≡ row k' m' z' ∷ y → (k ≡ k') × (m ≡ m') × (z ≡ z')
row_same k m z k' m' z' x y h = (cc, cc, cc)

first-row : (b : List ℕ) (left at : ℕ) → 0 < left → rows_from b left at ≡ row_at b at ∷ rows_from b (left - 1) (at + row_size)
unfolding rows_from
first-row b zero at h = absurd (omega arith)
first-row b (suc left) at h = let less : left ≡ suc left - 1 = omega arith in ap (λ (x : ℕ). row_at b at ∷ rows_from b x (at + row_size)) less

-- the first of trees
pub tree-first : (b : List ℕ) (i : ℕ) (e : Expr) (st : Exprs) → forest_at b i ≡ e ◂ st → tree_at b i ≡ e
unfolding tree_at first
tree-first b i e st h = rw h

first_is : (b : List ℕ) (i n : ℕ) (es : Exprs) → forest_at b i ≡ es → n ≤ cites b → drop n (texts_in b) ≡ citations_of es → n ≡ first_at b i
unfolding first_at
first_is b i n es f l h =
    rw f (omega (arith, ap length h, length-drop n (texts_in b), texts-count b))

spot_by : (b : List ℕ) (i : ℕ) → i < nodes b → (n : ℕ) (e : Expr) (st : Exprs) → Wide e → n ≤ length (texts_in b)
    → rows_from b (nodes b - i) (row_from i) ≡ rows n e ++ rows_of (n + count e) st
    → drop n (texts_in b) ≡ citations e ++ citations_of st → build (texts_in b) (rows_from b (nodes b - i) (row_from i)) ≡ e ◂ st → Spot b i
unfolding citations_of
spot_by b i l n e st w few is cited built =
    let texts = texts_in b in
    let rs = rows_from b (nodes b - i) (row_from i) in
    let total : nodes b - i ≡ span e + length (rows_of (n + count e) st) =
    sym (rows_length b (nodes b - i) (row_from i)) ∙ ap length is ∙ length-append (rows n e) (rows_of (n + count e) st) ∙ rw (rows_span n e) in
    let inside : i + span e ≤ nodes b = omega arith in
    let f = row_same _ _ _ (kind_number (node_kind e)) (row_number n e) (span e) _ _ (sym (first-row b (nodes b - i) (row_from i) (omega arith)) ∙ is ∙ ap (λ x. x ++ rows_of (n + count e) st) (rows_head n e)) in
    let forest : forest_at b i ≡ e ◂ st = found b i (e ◂ st) built in
    let c = texts-count b in
    let size = ap length cited ∙ length-append (citations e) (citations_of st) in
    record {
      e = e;
      st = st;
      n = n;
      tree = tree-first b i e st forest;
      forest = forest;
      below = found b (i + 1) (children e ⧺ st) (rw (← rows_at b i 1 (i + 1) refl (omega arith)) (below texts rs e st built));
      after = found b (i + span e) st (rw (← rows_at b i (span e) (i + span e) refl inside) (next-tree texts e rs st built));
      kind = f.0;
      number = f.1;
      size = f.2;
      wide = w;
      cited = cited;
      first = first_is b i n (e ◂ st) forest (omega arith) cited;
      total = omega (arith, length-drop n texts);
      inside = inside;
    }

spot_of : (b : List ℕ) (i n : ℕ) → i < nodes b → (s : Shape (texts_in b) n (rows_from b (nodes b - i) (row_from i))) → (st : Exprs) → s.st ≡ st → Spot b i
unfolding rows_of citations_of
spot_of b i n l s none h =
    let none_left = sym (rows_length b (nodes b - i) (row_from i)) ∙ ap length (s.is ∙ ap (rows_of n) h) in absurd (omega arith)
spot_of b i n l s (more e st) h =
    let w = subst Wides h s.wide in
    spot_by b i l n e st w.0 s.bound (s.is ∙ ap (rows_of n) h) (s.cited ∙ ap citations_of h)
    (ap (build (texts_in b)) (s.is ∙ ap (rows_of n) h) ∙ builds (texts_in b) n (e ◂ st) (s.cited ∙ ap citations_of h))

-- what stands at a row of a tree
pub spot : (b : List ℕ) → is_tree b ≡ true → (i : ℕ) → i < nodes b → Spot b i
spot b h i l =
    let t = tests b h in
    let len = rows_length b (nodes b) head_size in
    let x = suffix (cites b) 0 (rows_in b) t.rowed i (omega arith) in
    let all : nodes b ≡ nodes b - 0 = omega arith in
    let rs : drop i (rows_in b) ≡ rows_from b (nodes b - i) (row_from i) =
    ap (λ (x : ℕ). drop i (rows_from b x head_size)) all ∙ rows_at b 0 i i (omega arith) (omega arith) in
    let c = texts-count b in
    let s = shape (texts_in b) (rows_from b (nodes b - i) (row_from i)) x.0 (rw (c, ← rs) x.1) in
    spot_of b i x.0 l s s.st refl
