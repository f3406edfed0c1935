-- Bytes pass the test for a tree exactly if they are the bytes of an expression that fits. Assumes nothing.
use Rattle.std.specs.Prelude.{◌≡◌, refl, List, [], ◌∷◌, ◌++◌, true, ◌&&◌, ℕ, ◌+◌, ◌-◌, ◌*◌, ◌≤◌, length, drop, Ok}
use Rattle.std.proofs.Common.{sym, ap, ◌∙◌, subst, append_assoc, append-nil, arith, length-append, drop-drop, le-leb, eq-eqb}
use Rattle.std.proofs.Math.Seq.{drop-append_seam}
use store.Seg.{eqb_same}
use Rattle.laws.specs.Tests.{and_both}
use Rattle.refusal.specs.Result.{unless_ok}
use Rattle.refusal.specs.declared.Refusal.TheVariants.{NotATree}
use Rattle.grammar.specs.Expr.{Expr, Exprs, none, more, ◌◂◌, ◌⧺◌, Wide, Wides, concat, citations, citations_of, count}
use Rattle.grammar.specs.Citable.{AllCitable}
use Rattle.grammar.specs.Reading.{citation_limit, cited_limit, Fits}
use Rattle.grammar.specs.Rows.{Row, row, many, rows, rows_of, span, spans, rows_span, rows_spans, first, build}
use Rattle.grammar.proofs.Rows.{built}
use Rattle.grammar.specs.Bytes.{head_size, row_size, cite_size, two_bytes, row_bytes, cite_bytes, cites_from, texts_from, head_bytes, packed, bytes_of, field, nodes, cites, cites_at, texts_at, rows_from, rows_in, texts_in, head_ok, tiles, rows_ok, cites_ok, is_tree, forest_at, tree_at, tree_of}
use Rattle.grammar.proofs.Steps.{ok_same}
use Rattle.grammar.specs.Shape.{tiles-cut, shape}
use Rattle.grammar.proofs.Shape.{span_some, tiles_rows, ok_rows}
use Rattle.grammar.specs.Pack.{IsBytes, put, got, rows_got, rows_put, rows_length, texts-length, cites-got, cites_put, length-drop}
use Rattle.grammar.specs.Trees.{Header, Reads, Headed, headed, Tests, Only, Rooted, IsTree}

rows_size : (rs : List Row) → length (row_bytes rs) ≡ row_size * length rs
unfolding row_bytes two_bytes
rows_size [] = refl
rows_size (row k m z ∷ rs) = omega (arith, rows_size rs)

cites_size : (o : ℕ) (ts : List (List ℕ)) → length (cite_bytes o ts) ≡ cite_size * length ts
unfolding cite_bytes two_bytes
cites_size o [] = refl
cites_size o (t ∷ ts) = omega (arith, cites_size (o + length t) ts)

head_size_lem : (n c t : ℕ) → length (head_bytes n c t) ≡ head_size
unfolding head_bytes two_bytes
head_size_lem n c t = refl

-- the length of rows and texts as bytes
pub packed-length : (rs : List Row) (ts : List (List ℕ)) → length (packed rs ts) ≡ head_size + row_size * length rs + cite_size * length ts + length (concat ts)
unfolding packed
packed-length rs ts =
    let a = length-append (head_bytes (length rs) (length ts) (length (concat ts))) (row_bytes rs ++ (cite_bytes 0 ts ++ concat ts)) in
    let b = length-append (row_bytes rs) (cite_bytes 0 ts ++ concat ts) in
    let c = length-append (cite_bytes 0 ts) (concat ts) in
    omega (arith, head_size_lem (length rs) (length ts) (length (concat ts)), rows_size rs, cites_size 0 ts)

header_got : (b : List ℕ) (n c t : ℕ) (x : List ℕ) → b ≡ head_bytes n c t ++ x → Header b n c t x
unfolding head_bytes
header_got b n c t x h =
    let x5 = two_bytes (texts_from n c + t) ++ x in
    let x4 = two_bytes (texts_from n c) ++ x5 in
    let x3 = two_bytes (cites_from n) ++ x4 in
    let x2 = two_bytes head_size ++ x3 in
    let x1 = two_bytes c ++ x2 in
    let g : drop 0 b ≡ two_bytes n ++ x1 = h ∙ simp append_assoc in
    let g0 = got b x1 0 n g in
    let g1 = got b x2 2 c g0.1 in
    let g2 = got b x3 4 head_size g1.1 in
    let g3 = got b x4 6 (cites_from n) g2.1 in
    let g4 = got b x5 8 (texts_from n c) g3.1 in
    let g5 = got b x 10 (texts_from n c + t) g4.1 in
    record { h0 = g0.0; h1 = g1.0; h2 = g2.0; h3 = g3.0; h4 = g4.0; h5 = g5.0; rest = g5.1 }

reads : (b : List ℕ) (rs : List Row) (ts : List (List ℕ)) → b ≡ packed rs ts → length ts ≤ citation_limit → length (concat ts) ≤ cited_limit → AllCitable ts → Reads b rs ts
unfolding packed head_ok
reads b rs ts e few small k =
    let n = length rs in
    let c = length ts in
    let h = header_got b n c (length (concat ts)) (row_bytes rs ++ (cite_bytes 0 ts ++ concat ts)) e in
    let r = rows_got b rs (cite_bytes 0 ts ++ concat ts) head_size h.rest in
    let len : length b ≡ texts_from n c + length (concat ts) = ap length e ∙ packed-length rs ts in
    let texts : drop (texts_from n c) b ≡ concat ts =
    rw (← cites_size 0 ts) (sym (drop-drop (length (cite_bytes 0 ts)) (cites_from n) b) ∙ rw r.1 (drop-append_seam (cite_bytes 0 ts) (concat ts))) in
    let g = cites-got b ts (concat ts) (cites_from n) (texts_from n c) 0 r.1 texts (omega arith) (omega (arith, h.h0, h.h1)) k in
    record {
      noded = h.h0;
      counts = h.h1;
      rowed = rw h.h0 r.0;
      texted = rw (h.h0, h.h1) g.0;
      headed =
          rw (h.h0, h.h1, h.h2, h.h3, h.h4, h.h5, le-leb head_size (length b) (omega arith), eqb_same (cites_from n), eqb_same (texts_from n c), eq-eqb (texts_from n c + length (concat ts)) (length b) (sym len), le-leb c citation_limit few, le-leb (texts_from n c) (length b) (omega arith))
          (le-leb (length b) (texts_from n c + cited_limit) (omega arith));
      cited = rw (h.h0, h.h1) g.1;
    }

one_root : (e : Expr) → tiles 1 (length (rows 0 e)) (rows 0 e) ≡ true
unfolding many spans rows_of
one_root e =
    let size : span e + 0 ≡ length (rows 0 e) = omega (arith, rows_span 0 e) in
    rw (append-nil (rows 0 e), append-nil (rows 0 e), size) at (tiles_rows (e ◂ none) 0 [])

numbered : (e : Expr) → Wide e → rows_ok 0 (count e) (rows 0 e) ≡ true
unfolding rows_ok
numbered e w = rw (append-nil (rows 0 e)) at (ok_rows e w 0 (count e) []) ∙ eq-eqb (0 + count e) (count e) (omega arith)

packs : (e : Expr) → bytes_of e ≡ packed (rows 0 e) (citations e)
unfolding bytes_of
packs e = refl

-- what is read back of the bytes of an expression
pub bytes_read : (e : Expr) → Fits e → Reads (bytes_of e) (rows 0 e) (citations e)
bytes_read e f = reads (bytes_of e) (rows 0 e) (citations e) (packs e) f.few f.small f.citable

-- the bytes of an expression that fits are a tree
pub is_tree_lem : (e : Expr) → Fits e → is_tree (bytes_of e) ≡ true
unfolding is_tree
is_tree_lem e f =
    let r = bytes_read e f in
    let row-check : rows_ok 0 (cites (bytes_of e)) (rows_in (bytes_of e)) ≡ true = rw (r.rowed, r.counts) (numbered e f.wide) in
    let root-check : tiles 1 (nodes (bytes_of e)) (rows_in (bytes_of e)) ≡ true = rw (r.rowed, r.noded) (one_root e) in
    rw (r.headed, root-check, row-check, r.cited)

-- the trees from the first row on are those of all rows
forest_all : (b : List ℕ) → forest_at b 0 ≡ build (texts_in b) (rows_in b)
unfolding forest_at
forest_all b =
    let all : nodes b - 0 ≡ nodes b = omega arith in
    let from : head_size + row_size * 0 ≡ head_size = omega arith in
    ap (λ (n : ℕ). build (texts_in b) (rows_from b n (head_size + row_size * 0))) all ∙ ap (λ (p : ℕ). build (texts_in b) (rows_from b (nodes b) p)) from

root_of : (b : List ℕ) (e : Expr) → rows_in b ≡ rows 0 e → texts_in b ≡ citations e → tree_at b 0 ≡ e
unfolding tree_at first
root_of b e r t = rw (forest_all b, r, t, built e)

-- the bytes of an expression determine it
pub tree_of_bytes : (e : Expr) → Fits e → tree_of (bytes_of e) ≡ Ok e
unfolding tree_of
tree_of_bytes e f = let r = bytes_read e f in rw (is_tree_lem e f, root_of (bytes_of e) e r.rowed r.texted)

-- the parts of the test, of bytes that pass it
pub tests : (b : List ℕ) → is_tree b ≡ true → Tests b
unfolding is_tree
tests b h =
    let c = cites_ok b (cites b) (cites_at b) (texts_at b) in
    let r = rows_ok 0 (cites b) (rows_in b) in
    let h0 = and_both (head_ok b) (tiles 1 (nodes b) (rows_in b) && (r && c)) h in
    let h1 = and_both (tiles 1 (nodes b) (rows_in b)) (r && c) h0.1 in
    let h2 = and_both r c h1.1 in
    record { head = headed b h0.0; root = h1.0; rowed = h2.0; cited = h2.1 }

spans_append : (a b : Exprs) → spans (a ⧺ b) ≡ spans a + spans b
unfolding spans ◌⧺◌
spans_append none b = omega arith
spans_append (more e a) b = omega (arith, spans_append a b)

spans_none : (es : Exprs) → spans es ≡ 0 → es ≡ none
unfolding spans
spans_none none h = refl
spans_none (more e es) h = absurd (omega (arith, span_some e))

many_one : (es : Exprs) → many es ≡ 1 → Only es
unfolding many
many_one none h = absurd (omega arith)
many_one (more e none) h = record { root = e; only = refl }
many_one (more e (more f es)) h = absurd (omega arith)

rooted : (texts : List (List ℕ)) (rs : List Row) → tiles 1 (length rs) rs ≡ true → rows_ok 0 (length texts) rs ≡ true → Rooted texts rs
unfolding ◌⧺◌ rows_of citations_of
rooted texts rs t k =
    let s = shape texts rs 0 k in
    let c = tiles-cut 1 (length rs) s.st 0 (subst (λ x. tiles 1 (length rs) x ≡ true) s.is t) in
    let o = many_one c.kids c.counts in
    let total : spans s.st ≡ spans c.kids + spans c.rest = ap spans c.eq ∙ spans_append c.kids c.rest in
    let size : length rs ≡ spans s.st = ap length s.is ∙ rows_spans 0 s.st in
    let left = spans_none c.rest (omega (arith, c.spanned)) in
    let all : s.st ≡ o.root ◂ none = c.eq ∙ ap (λ x. x ⧺ c.rest) o.only ∙ ap (λ x. o.root ◂ x) left in
    record {
      root = o.root;
      wide = (subst Wides all s.wide).0;
      is = s.is ∙ ap (rows_of 0) all ∙ append-nil (rows 0 o.root);
      cited = sym (s.cited ∙ ap citations_of all ∙ append-nil (citations o.root));
    }

-- the rows and texts of a tree are those of an expression
pub rooted_in : (b : List ℕ) → is_tree b ≡ true → Rooted (texts_in b) (rows_in b)
rooted_in b h =
    let t = tests b h in
    let n : length (rows_in b) ≡ nodes b = rows_length b (nodes b) head_size in
    let c : length (texts_in b) ≡ cites b = texts-length b (cites b) (cites_at b) (texts_at b) in
    rooted (texts_in b) (rows_in b) (rw n t.root) (rw c t.rowed)

header_put : (b : List ℕ) → IsBytes b → Headed b → b ≡ head_bytes (nodes b) (cites b) (length b - texts_at b) ++ drop head_size b
unfolding head_bytes
header_put b i h =
    let total : field b 10 ≡ texts_at b + (length b - texts_at b) = omega (arith, h.ended, h.inside) in
    let p5 = put b 10 i (omega (arith, h.long)) in
    let p4 = put b 8 i (omega (arith, h.long)) ∙ ap (λ x. two_bytes (field b 8) ++ x) p5 in
    let p3 = put b 6 i (omega (arith, h.long)) ∙ ap (λ x. two_bytes (field b 6) ++ x) p4 in
    let p2 = put b 4 i (omega (arith, h.long)) ∙ ap (λ x. two_bytes (field b 4) ++ x) p3 in
    let p1 = put b 2 i (omega (arith, h.long)) ∙ ap (λ x. two_bytes (field b 2) ++ x) p2 in
    let p0 = put b 0 i (omega (arith, h.long)) ∙ ap (λ x. two_bytes (field b 0) ++ x) p1 in
    p0 ∙ rw (h.rowed, h.cited, h.texted, total) (simp append_assoc)

unpacks : (b : List ℕ) → IsBytes b → is_tree b ≡ true → (packed (rows_in b) (texts_in b) ≡ b) × (length (concat (texts_in b)) ≤ cited_limit) × AllCitable (texts_in b)
unfolding packed
unpacks b i h =
    let t = tests b h in
    let n : length (rows_in b) ≡ nodes b = rows_length b (nodes b) head_size in
    let c : length (texts_in b) ≡ cites b = texts-length b (cites b) (cites_at b) (texts_at b) in
    let r = rows_put b (nodes b) head_size i (omega (arith, t.head.inside)) in
    let k = cites_put b (cites b) (cites_at b) (texts_at b) 0 i (omega (arith, t.head.inside)) (omega arith) t.cited in
    let len = length-drop (texts_at b) b t.head.inside in
    let same = ap length k.text in
    let size : length (concat (texts_in b)) ≡ length b - texts_at b = omega arith in
    let tail : drop head_size b ≡ row_bytes (rows_in b) ++ (cite_bytes 0 (texts_in b) ++ concat (texts_in b)) =
    r ∙ ap (λ x. row_bytes (rows_in b) ++ x) (k.written ∙ ap (λ x. cite_bytes 0 (texts_in b) ++ x) k.text) in (
      rw (n, c, size) (sym (header_put b i t.head ∙ ap (λ x. head_bytes (nodes b) (cites b) (length b - texts_at b) ++ x) tail)),
      omega (arith, t.head.small),
      k.valid,
    )

-- bytes that pass the test are a tree
pub tested : (b : List ℕ) → IsBytes b → is_tree b ≡ true → IsTree b
tested b i h =
    let r = rooted_in b h in
    let u = unpacks b i h in
    let c : length (texts_in b) ≡ cites b = texts-length b (cites b) (cites_at b) (texts_at b) in
    let f : Fits r.root = record {
      wide = r.wide;
      few = omega (arith, ap length r.cited, (tests b h).head.few);
      small = rw r.cited u.1;
      citable = rw r.cited u.2;
    } in
    record { expr = r.root; fits = f; is = sym (packs r.root ∙ rw (r.cited, ← r.is) u.0) }

-- what bytes are a tree of, they are the bytes of, and it fits
pub tree_is_bytes : (b : List ℕ) → IsBytes b → (e : Expr) → tree_of b ≡ Ok e → (bytes_of e ≡ b) × Fits e
unfolding tree_of
tree_is_bytes b i e h =
    let t = unless_ok (is_tree b) NotATree (Ok (tree_at b 0)) e h in
    let s = tested b i t.0 in
    let same : s.expr ≡ e = ok_same s.expr e (sym (ap tree_of s.is ∙ tree_of_bytes s.expr s.fits) ∙ h) in
    (subst (λ x. bytes_of x ≡ b) same (sym s.is), subst Fits same s.fits)
