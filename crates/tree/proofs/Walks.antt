-- Walking a tree by its rows: the root, a citation's row, and the loop over a node's children. Assumes nothing.
use Rattle.std.specs.Prelude.{Ok, Err}
use Rattle.grammar.proofs.Rows.{firsts-all, built}
use mathlib.Core.Path.{◌≡◌, refl, sym, ap, ◌∙◌, subst}
use mathlib.Core.List.{List, [], ◌∷◌, ◌++◌}
use mathlib.Core.Bool.{Bool, true, false}
use Prim.Native.Nat.{ℕ, zero, suc, ◌+◌, ◌-◌, ◌≤◌, ◌<◌}
use native.Mathlib.Nat.{add-zero}
use native.Mathlib.Omega.{arith}
use lib.Dec.{ltb}
use lib.ListN.{length, drop, length-append}
use lib.Seq.{get_or-drop}
use borrow.Author.Tests.{ltb-true, ltb-false}
use Rattle.refusal.specs.declared.Refusal.TheVariants.{NotATree}
use Rattle.grammar.specs.Expr.{And, Or, Xor, Expr, Exprs, cite, Then, join, none, more, ◌◂◌, ◌⧺◌, citations, citations_of, count, citations_append}
use Rattle.grammar.proofs.Expr.{appends_assoc}
use Rattle.grammar.specs.Reading.{Fits}
use Rattle.grammar.specs.Rows.{many, span, spans, firsts, children, build, rows_span}
use Rattle.grammar.specs.Bytes.{head_size, nodes, cites, cites_at, texts_at, rows_from, rows_in, texts_in, is_tree, forest_at, tree_at, tree_of}
use Rattle.grammar.proofs.Shape.{span_some}
use Rattle.grammar.specs.Pack.{rows_length}
use Rattle.grammar.proofs.Trees.{tests, rooted_in}
use Rattle.grammar.specs.Kinds.{node_kind, sign_kind}
use Rattle.grammar.specs.declared.NodeKind.TheVariants.{Citation}
use Rattle.tree.specs.Walk.{number_at, first_at, text_at}
use Rattle.tree.proofs.Spots.{spot, found, tree-first, row_number, texts-count}
use Rattle.tree.proofs.Cites.{texts-stand}

-- what is not a tree is turned back with 15
pub no-tree : (b : List ℕ) → is_tree b ≡ false → tree_of b ≡ Err NotATree
unfolding tree_of
no-tree b h = rw h

-- the whole tree
pub record Root (b : List ℕ) : Type 0 where
  pub is : tree_of b ≡ Ok (tree_at b 0)
  pub some : 0 < nodes b
  pub size : span (tree_at b 0) ≡ nodes b
  pub cited : citations (tree_at b 0) ≡ texts_in b
  pub counts : count (tree_at b 0) ≡ cites b
  pub fits : Fits (tree_at b 0)
  pub first : first_at b 0 ≡ 0

tree_is : (b : List ℕ) → is_tree b ≡ true → tree_of b ≡ Ok (tree_at b 0)
unfolding tree_of
tree_is b h = rw h

first_none : (b : List ℕ) (es : Exprs) → forest_at b 0 ≡ es → length (citations_of es) ≡ cites b → first_at b 0 ≡ 0
unfolding first_at
first_none b es h l = rw h (omega arith)

-- the expression that the whole tree stands for
pub root : (b : List ℕ) → is_tree b ≡ true → Root b
unfolding citations_of
root b h =
    let r = rooted_in b h in
    let t = tests b h in
    let e = r.root in
    let zeroth : nodes b - 0 ≡ nodes b = omega arith in
    let all : build (texts_in b) (rows_in b) ≡ e ◂ none = rw (← r.cited, r.is) (built e) in
    let forest : forest_at b 0 ≡ e ◂ none = found b 0 (e ◂ none) (rw zeroth all) in
    let at0 : tree_at b 0 ≡ e = tree-first b 0 e none forest in
    let x = texts-stand b (cites b) (cites_at b) (texts_at b) t.cited in
    let size : nodes b ≡ span e = sym (rows_length b (nodes b) head_size) ∙ ap length r.is ∙ rows_span 0 e in
    let counts : count e ≡ cites b = ap length r.cited ∙ texts-count b in
    let f : Fits e = record {
      wide = r.wide;
      few = omega (arith, counts, t.head.few);
      small = rw r.cited (omega (arith, x.0, t.head.small));
      citable = rw r.cited x.1;
    } in
    record {
      is = tree_is b h;
      some = omega (arith, size, span_some e);
      size = ap span at0 ∙ sym size;
      cited = ap citations at0 ∙ r.cited;
      counts = ap count at0 ∙ counts;
      fits = subst Fits (sym at0) f;
      first = first_none b (e ◂ none) forest (length-append (citations e) [] ∙ omega (arith, counts));
    }

-- what a citation's row says: its number, which is that of the first citation from there on, and its text
pub record Leaf (b : List ℕ) (row : ℕ) : Type 0 where
  pub number : number_at b row < cites b
  pub is : tree_at b row ≡ cite (text_at b (number_at b row))
  pub first : number_at b row ≡ first_at b row

leaf_text : (b : List ℕ) (n : ℕ) (t : List ℕ) (x : List (List ℕ)) → drop n (texts_in b) ≡ t ∷ x → text_at b n ≡ t
unfolding text_at
leaf_text b n t x c = sym (rw add-zero at (get_or-drop n (texts_in b) 0 [])) ∙ rw c

leaf_by : (b : List ℕ) (row : ℕ) (e : Expr) → node_kind e ≡ Citation → (st : Exprs) (n : ℕ) → tree_at b row ≡ e → number_at b row ≡ row_number n e → drop n (texts_in b) ≡ citations e ++ citations_of st → n ≡ first_at b row → n + count e ≤ cites b → Leaf b row
unfolding node_kind citations sign_kind
leaf_by b row (cite t) k st n is num cited first within =
    record {
      number = omega (arith, num, within);
      is = is ∙ ap cite (sym (ap (text_at b) num ∙ leaf_text b n t (citations_of st) cited));
      first = num ∙ first;
    }
leaf_by b row (Then es) k st n is num cited first within = cc
leaf_by b row (join And es) k st n is num cited first within = cc
leaf_by b row (join Or es) k st n is num cited first within = cc
leaf_by b row (join Xor es) k st n is num cited first within = cc

-- a citation's row
pub leaf : (b : List ℕ) → is_tree b ≡ true → (row : ℕ) → row < nodes b → node_kind (tree_at b row) ≡ Citation → Leaf b row
leaf b h row l k =
    let s = spot b h row l in
    leaf_by b row s.e (sym (ap node_kind s.tree) ∙ k) s.st s.n s.tree s.number s.cited s.first (omega (arith, s.total))

-- the loop over the children of the node at a row: those that are done, and `left` more from the row `child` on
pub record Walk (b : List ℕ) (row left child : ℕ) : Type 0 where
  pub done : Exprs
  pub whole : children (tree_at b row) ≡ done ⧺ firsts left (forest_at b child)
  pub counts : many (firsts left (forest_at b child)) ≡ left
  pub within : child ≤ nodes b

number_inner : (n : ℕ) (e : Expr) → (node_kind e ≡ Citation → ⊥) → row_number n e ≡ many (children e)
unfolding node_kind children
number_inner n (cite t) h = absurd (h refl)
number_inner n (Then es) h = refl
number_inner n (join o es) h = refl

cites-inner : (e : Expr) → (node_kind e ≡ Citation → ⊥) → citations_of (children e) ≡ citations e
unfolding node_kind children citations
cites-inner (cite t) h = absurd (h refl)
cites-inner (Then es) h = refl
cites-inner (join o es) h = refl

first_of : (b : List ℕ) (i : ℕ) (es : Exprs) → forest_at b i ≡ es → first_at b i ≡ cites b - length (citations_of es)
unfolding first_at
first_of b i es h = rw h

-- the children of the node at a row stand from the next row on, as many as its row says
pub children-at : (b : List ℕ) → is_tree b ≡ true → (row : ℕ) → row < nodes b → (node_kind (tree_at b row) ≡ Citation → ⊥)
    → (children (tree_at b row) ≡ firsts (number_at b row) (forest_at b (row + 1))) × (many (children (tree_at b row)) ≡ number_at b row)
children-at b h row l k =
    let s = spot b h row l in
    let no : node_kind s.e ≡ Citation → ⊥ = λ q. k (ap node_kind s.tree ∙ q) in
    let num : number_at b row ≡ many (children s.e) = s.number ∙ number_inner s.n s.e no in
    let kids : firsts (number_at b row) (forest_at b (row + 1)) ≡ children s.e = rw (s.below, num) (firsts-all (children s.e) s.st) in
    (ap children s.tree ∙ sym kids, ap (λ x. many (children x)) s.tree ∙ sym num)

-- the first child's first citation is the node's
pub first_below : (b : List ℕ) → is_tree b ≡ true → (row : ℕ) → row < nodes b → (node_kind (tree_at b row) ≡ Citation → ⊥) → first_at b (row + 1) ≡ first_at b row
unfolding citations_of
first_below b h row l k =
    let s = spot b h row l in
    let no : node_kind s.e ≡ Citation → ⊥ = λ q. k (ap node_kind s.tree ∙ q) in
    let cited : citations_of (children s.e ⧺ s.st) ≡ citations_of (s.e ◂ s.st) =
    citations_append (children s.e) s.st ∙ ap (λ x. x ++ citations_of s.st) (cites-inner s.e no) in
    first_of b (row + 1) (children s.e ⧺ s.st) s.below ∙ ap (λ x. cites b - length x) cited ∙ sym (first_of b row (s.e ◂ s.st) s.forest)

-- before the first child
pub walk_begins : (b : List ℕ) → is_tree b ≡ true → (row : ℕ) → row < nodes b → (node_kind (tree_at b row) ≡ Citation → ⊥) → Walk b row (number_at b row) (row + 1)
unfolding ◌⧺◌
walk_begins b h row l k =
    let c = children-at b h row l k in
    record {
      done = none;
      whole = c.0;
      counts = ap many (sym c.0) ∙ c.1;
      within = omega (arith, l);
    }

past_end : (b : List ℕ) → forest_at b (nodes b) ≡ none
unfolding forest_at build rows_from
past_end b = let z : nodes b - nodes b ≡ 0 = omega arith in rw z

firsts_none : (m : ℕ) → firsts m none ≡ none
unfolding firsts
firsts_none zero = refl
firsts_none (suc m) = refl

firsts_more : (left : ℕ) (e : Expr) (st : Exprs) → 0 < left → firsts left (e ◂ st) ≡ e ◂ firsts (left - 1) st
unfolding firsts
firsts_more zero e st h = absurd (omega arith)
firsts_more (suc n) e st h = let z : n ≡ suc n - 1 = omega arith in ap (λ (x : ℕ). e ◂ firsts x st) z

many_less : (e : Expr) (es : Exprs) (left : ℕ) → many (e ◂ es) ≡ left → many es ≡ left - 1
unfolding many
many_less e es left h = omega arith

next_in : (b : List ℕ) (left child : ℕ) → 0 < left → child ≤ nodes b → many (firsts left (forest_at b child)) ≡ left → child < nodes b
unfolding many
next_in b left child h l c = go (ltb child (nodes b)) refl
  where
    go : (x : Bool) → ltb child (nodes b) ≡ x → child < nodes b
    go true q = ltb-true child (nodes b) q
    go false q =
        let same : child ≡ nodes b = omega (arith, ltb-false child (nodes b) q) in
        let zero_left : 0 ≡ left = sym (ap many (ap (firsts left) (ap (forest_at b) same ∙ past_end b) ∙ firsts_none left)) ∙ c in
        absurd (omega arith)

spans_in : (done : Exprs) (e : Expr) (es : Exprs) → span e ≤ spans (done ⧺ (e ◂ es))
unfolding spans ◌⧺◌
spans_in none e es = omega arith
spans_in (more d done) e es = omega (arith, spans_in done e es)

span_children : (e : Expr) → spans (children e) < span e
unfolding spans span children
span_children (cite t) = omega arith
span_children (Then es) = omega arith
span_children (join o es) = omega arith

-- the child that is next
pub record Next (b : List ℕ) (row left child : ℕ) : Type 0 where
  pub inside : child < nodes b
  pub some : 0 < span (tree_at b child)
  pub shrinks : span (tree_at b child) < span (tree_at b row)
  pub splits : firsts left (forest_at b child) ≡ tree_at b child ◂ firsts (left - 1) (forest_at b (child + span (tree_at b child)))
  pub walk : Walk b row (left - 1) (child + span (tree_at b child))

-- a turn of the loop
pub walk_next : (b : List ℕ) → is_tree b ≡ true → (row left child : ℕ) → Walk b row left child → 0 < left → Next b row left child
unfolding ◌⧺◌
walk_next b tree row left child w h =
    let l = next_in b left child h w.within w.counts in
    let p = spot b tree child l in
    let e = tree_at b child in
    let same : p.e ≡ e = sym p.tree in
    let on : forest_at b (child + span e) ≡ p.st = ap (λ x. forest_at b (child + span x)) p.tree ∙ p.after in
    let rest = firsts (left - 1) (forest_at b (child + span e)) in
    let cut : firsts left (forest_at b child) ≡ e ◂ rest =
    ap (firsts left) p.forest ∙ firsts_more left p.e p.st h ∙ ap (λ x. x ◂ firsts (left - 1) p.st) same ∙ ap (λ x. e ◂ firsts (left - 1) x) (sym on) in
    let all : children (tree_at b row) ≡ w.done ⧺ (e ◂ rest) = w.whole ∙ ap (λ x. w.done ⧺ x) cut in
    record {
      inside = l;
      some = span_some e;
      shrinks = omega (arith, ap spans all, spans_in w.done e rest, span_children (tree_at b row));
      splits = cut;
      walk = record {
        done = w.done ⧺ (e ◂ none);
        whole = all ∙ sym (appends_assoc w.done (e ◂ none) rest);
        counts = many_less e rest left (sym (ap many cut) ∙ w.counts);
        within = omega (arith, ap span p.tree, p.inside);
      };
    }

-- no child is left
pub firsts_end : (left : ℕ) (es : Exprs) → left ≤ 0 → firsts left es ≡ none
unfolding firsts
firsts_end zero es h = refl
firsts_end (suc left) es h = absurd (omega arith)

-- the next child's first citation
pub first_next : (b : List ℕ) → is_tree b ≡ true → (i : ℕ) → i < nodes b → first_at b i + count (tree_at b i) ≡ first_at b (i + span (tree_at b i))
first_next b tree i l =
    let s = spot b tree i l in
    let on : forest_at b (i + span (tree_at b i)) ≡ s.st = ap (λ x. forest_at b (i + span x)) s.tree ∙ s.after in
    omega (arith, first_of b (i + span (tree_at b i)) s.st on, s.first, s.total, ap count s.tree)

-- a step of a walk over rows: the next is a row, and the rest is fewer by one
pub row_next : (b : List ℕ) → is_tree b ≡ true → (left child : ℕ) → child ≤ nodes b → many (firsts left (forest_at b child)) ≡ left → 0 < left
    → (child < nodes b) × (child + span (tree_at b child) ≤ nodes b) × (many (firsts (left - 1) (forest_at b (child + span (tree_at b child)))) ≡ left - 1)
row_next b tree left child w c h =
    let l = next_in b left child h w c in
    let p = spot b tree child l in
    let on : forest_at b (child + span (tree_at b child)) ≡ p.st = ap (λ x. forest_at b (child + span x)) p.tree ∙ p.after in
    let cut : firsts left (forest_at b child) ≡ p.e ◂ firsts (left - 1) p.st = ap (firsts left) p.forest ∙ firsts_more left p.e p.st h in
    (l, omega (arith, ap span p.tree, p.inside), ap (λ x. many (firsts (left - 1) x)) on ∙ many_less p.e (firsts (left - 1) p.st) left (sym (ap many cut) ∙ c))

-- the walk begins at the next row
pub children_next : (b : List ℕ) → is_tree b ≡ true → (row : ℕ) → row < nodes b → (node_kind (tree_at b row) ≡ Citation → ⊥) → {left : ℕ} → left ≡ number_at b row → many (firsts left (forest_at b (row + 1))) ≡ left
children_next b h row l k e = let c = children-at b h row l k in rw e (ap many (sym c.0) ∙ c.1)

-- the child that a walk gives is the next
pub next_given : (b : List ℕ) → is_tree b ≡ true → {row left from child : ℕ} → Walk b row left from → child ≡ from → 0 < left → Next b row left child
next_given b h {row} {left} {from} w e s = rw e (walk_next b h row left from w s)
