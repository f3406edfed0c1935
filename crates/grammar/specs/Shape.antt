-- Rows that pass the row check are the rows of trees, and the rows of a tree pass it. Assumes nothing.
use Rattle.std.specs.Prelude.{◌≡◌, refl, true, ◌&&◌, leb, ltb, drop}
use Rattle.std.proofs.Common.{sym, ◌∙◌, subst, add-zero, add_assoc, length-append}
use Rattle.std.proofs.Math.Path.{ap}
use mathlib.Core.List.{List, [], ◌∷◌, ◌++◌, append_assoc}
use Rattle.std.proofs.lemmas.Bool.{false≢true}
use Prim.Native.Nat.{ℕ, zero, suc, ◌+◌, ◌-◌, ◌≤◌, ◌<◌}
use native.Mathlib.Omega.{arith}
use Rattle.std.proofs.Math.Dec.{eqb}
use Rattle.std.proofs.Math.ListN.{length, get_or, drop_of_length-le}
use Rattle.std.proofs.Math.Seq.{drop-append_seam, drop-cons}
use borrow.Author.Tests.{eqb-true, ltb-true, leb-true}
use Rattle.laws.specs.Tests.{and_both}
use Rattle.grammar.specs.Expr.{Expr, Exprs, cite, Then, join, none, more, ◌◂◌, ◌⧺◌, Two, Wide, Wides, citations, citations_of, count, citations_append}
use Rattle.grammar.specs.Rows.{Row, row, op_kind, many, node, rows, rows_of, span, spans, made, rows_span, rows_spans}
use Rattle.grammar.specs.Bytes.{size_of, tiles, row_ok, rows_ok}

-- the span that the first row of a tree's rows gives
pub size_rows : (n : ℕ) (e : Expr) (rs : List Row) → size_of (rows n e ++ rs) ≡ span e
unfolding size_of rows node span
size_rows n (cite t) rs = refl
size_rows n (Then es) rs = rw (rows_spans n es)
size_rows n (join o es) rs = rw (rows_spans n es)

-- what stands behind a tree's rows
pub drop_rows : (n : ℕ) (e : Expr) (rs : List Row) → drop (span e) (rows n e ++ rs) ≡ rs
drop_rows n e rs = rw (← rows_span n e) (drop-append_seam (rows n e) rs)

-- operands cut into the first m and the rest
pub record Cut (m z : ℕ) (st : Exprs) : Type 0 where
  pub kids : Exprs
  pub rest : Exprs
  pub eq : st ≡ kids ⧺ rest
  pub counts : many kids ≡ m
  pub spanned : spans kids ≡ z

-- rows that are walked by their sizes are those of the first trees
pub tiles-cut : (m z : ℕ) (st : Exprs) (n : ℕ) → tiles m z (rows_of n st) ≡ true → Cut m z st
unfolding tiles many spans rows_of ◌⧺◌ size_of
tiles-cut zero z st n h = record { kids = none; rest = st; eq = refl; counts = refl; spanned = sym (eqb-true z 0 h) }
tiles-cut (suc m) z none n h = absurd (false≢true h)
tiles-cut (suc m) z (more e st) n h =
    let after = rows_of (n + count e) st in
    let q : (ltb 0 (span e) && leb (span e) z) && tiles m (z - span e) after ≡ true = rw (size_rows n e after, drop_rows n e after) at h in
    let g = and_both (ltb 0 (span e) && leb (span e) z) (tiles m (z - span e) after) q in
    let fits : span e ≤ z = leb-true (span e) z (and_both (ltb 0 (span e)) (leb (span e) z) g.0).1 in
    let c = tiles-cut m (z - span e) st (n + count e) g.1 in
    record { kids = e ◂ c.kids; rest = c.rest; eq = ap (more e) c.eq; counts = ap suc c.counts; spanned = omega (arith, c.spanned) }

rows_made : (k n : ℕ) (es : Exprs) → k < 4 → rows n (made k es) ≡ row (suc k) (many es) (suc (spans es)) ∷ rows_of n es
unfolding made rows node op_kind
rows_made zero n es h = rw (rows_spans n es)
rows_made (suc zero) n es h = rw (rows_spans n es)
rows_made (suc (suc zero)) n es h = rw (rows_spans n es)
rows_made (suc (suc (suc zero))) n es h = rw (rows_spans n es)
rows_made (suc (suc (suc (suc k)))) n es h = absurd (omega arith)

cites-made : (k : ℕ) (es : Exprs) → citations (made k es) ≡ citations_of es
unfolding made citations
cites-made zero es = refl
cites-made (suc zero) es = refl
cites-made (suc (suc zero)) es = refl
cites-made (suc (suc (suc k))) es = refl

wide_made : (k : ℕ) (es : Exprs) → Two es → Wides es → Wide (made k es)
unfolding made
wide_made zero es t w = (t, w)
wide_made (suc zero) es t w = (t, w)
wide_made (suc (suc zero)) es t w = (t, w)
wide_made (suc (suc (suc k))) es t w = (t, w)

pub two_many : (es : Exprs) → 2 ≤ many es → Two es
unfolding many
two_many none h = absurd (omega arith)
two_many (more e none) h = absurd (omega arith)
two_many (more e (more f es)) h = tt

-- the rows of trees before others
pub rows_append : (a b : Exprs) (n : ℕ) → rows_of n (a ⧺ b) ≡ rows_of n a ++ rows_of (n + length (citations_of a)) b
unfolding rows_of citations_of ◌⧺◌
rows_append none b n = rw (add-zero n)
rows_append (more e a) b n =
    rw (rows_append a b (n + count e), length-append (citations e) (citations_of a), ← add_assoc n (count e) (length (citations_of a)))
    (sym (append_assoc (rows n e) (rows_of (n + count e) a) _))

-- wide operands, cut in two
pub wides_split : (a b : Exprs) → Wides (a ⧺ b) → Wides a × Wides b
unfolding ◌⧺◌
wides_split none b w = (tt, w)
wides_split (more e a) b w = let i = wides_split a b w.1 in ((w.0, i.0), i.1)

module _ (texts : List (List ℕ)) where
  -- the trees that rows stand for, n citations being before them
  pub record Shape (n : ℕ) (rs : List Row) : Type 0 where
    pub st : Exprs
    pub is : rs ≡ rows_of n st
    pub wide : Wides st
    pub cited : drop n texts ≡ citations_of st
    pub bound : n ≤ length texts

  shape_inner : (k m z n : ℕ) (rs : List Row) → (s : Shape n rs) → k < 4 → 2 ≤ m → 0 < z → Cut m (z - 1) s.st → Shape n (row (suc k) m z ∷ rs)
  unfolding rows_of citations_of
  shape_inner k m z n rs s k4 m2 z0 c =
      let same : row (suc k) m z ≡ row (suc k) (many c.kids) (suc (spans c.kids)) =
      let size : z ≡ suc (spans c.kids) = omega (arith, c.spanned) in rw (c.counts, ← size) in
      let w = wides_split c.kids c.rest (subst Wides c.eq s.wide) in
      let n₂ = n + length (citations_of c.kids) in
      record {
        st = made k c.kids ◂ c.rest;
        is = ap (λ r. r ∷ rs) same ∙ ap (λ x. row (suc k) (many c.kids) (suc (spans c.kids)) ∷ x) (s.is ∙ ap (rows_of n) c.eq ∙ rows_append c.kids c.rest n)
            ∙ rw (rows_made k n c.kids k4, cites-made k c.kids);
        wide = (wide_made k c.kids (two_many c.kids (rw c.counts m2)) w.0, w.1);
        cited = s.cited ∙ ap citations_of c.eq ∙ citations_append c.kids c.rest ∙ rw (cites-made k c.kids);
        bound = s.bound;
      }

  shape_leaf : (m z n : ℕ) (rs : List Row) → Shape (suc n) rs → m ≡ n → z ≡ 1 → Shape n (row zero m z ∷ rs)
  unfolding rows_of rows citations_of citations
  shape_leaf m z n rs s em ez =
      let one : suc n ≡ n + 1 = omega arith in
      let here : n < length texts = omega (arith, s.bound) in
      record {
        st = cite (get_or texts n []) ◂ s.st;
        is = ap (λ x. row zero m z ∷ x) s.is ∙ rw (em, ez, ← one);
        wide = (tt, s.wide);
        cited = drop-cons texts n [] here ∙ ap (λ x. get_or texts n [] ∷ x) s.cited;
        bound = omega arith;
      }

  pub shape : (rs : List Row) (n : ℕ) → rows_ok n (length texts) rs ≡ true → Shape n rs
  unfolding rows_ok row_ok rows_of rows citations_of citations
  shape [] n h =
      let e : n ≡ length texts = eqb-true n (length texts) h in
      record { st = none; is = refl; wide = tt; cited = drop_of_length-le texts {i = n} (omega arith); bound = omega arith }
  shape (row zero m z ∷ rs) n h =
      let a = and_both (eqb m n && eqb z 1) (rows_ok (suc n) (length texts) rs) h in
      let b = and_both (eqb m n) (eqb z 1) a.0 in
      shape_leaf m z n rs (shape rs (suc n) a.1) (eqb-true m n b.0) (eqb-true z 1 b.1)
  shape (row (suc k) m z ∷ rs) n h =
      let a = and_both (ltb k 4 && (leb 2 m && (ltb 0 z && (leb z (suc (length rs)) && tiles m (z - 1) rs)))) (rows_ok n (length texts) rs) h in
      let t = tiles m (z - 1) rs in
      let b = and_both (ltb k 4) (leb 2 m && (ltb 0 z && (leb z (suc (length rs)) && t))) a.0 in
      let c = and_both (leb 2 m) (ltb 0 z && (leb z (suc (length rs)) && t)) b.1 in
      let d = and_both (ltb 0 z) (leb z (suc (length rs)) && t) c.1 in
      let e = and_both (leb z (suc (length rs))) t d.1 in
      let s = shape rs n a.1 in
      shape_inner k m z n rs s (ltb-true k 4 b.0) (leb-true 2 m c.0) (ltb-true 0 z d.0) (tiles-cut m (z - 1) s.st n (subst (λ x. tiles m (z - 1) x ≡ true) s.is e.1))
