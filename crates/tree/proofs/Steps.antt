-- Each turn and each way out of the loops of `is_tree`, on the side of the definitions. Assumes nothing.
use mathlib.Core.Path.{◌≡◌, refl, sym, ap, ◌∙◌}
use mathlib.Core.List.{List}
use mathlib.Core.Bool.{Bool, true, false, ◌&&◌, false≢true}
use Prim.Native.Nat.{ℕ, zero, suc, ◌+◌, ◌-◌, ◌*◌, ◌≤◌, ◌<◌}
use native.Mathlib.Omega.{arith}
use lib.Dec.{eqb, leb, ltb}
use lib.ListN.{length, take, drop}
use borrow.Author.Tests.{lt-ltb, le-ltb, le-leb, lt-leb, eq-eqb, ne_eqb}
use Rattle.grammar.specs.Citable.{citable}
use Rattle.grammar.specs.Rows.{Row, row}
use Rattle.grammar.specs.Bytes.{head_size, field, nodes, cites, cites_at, texts_at, cites_from, texts_from, row_at, rows_from, rows_in, head_ok, size_of, tiles, row_ok, counted, rows_ok, cites_ok, is_tree}
use Rattle.grammar.specs.Reading.{citation_limit, cited_limit}

pub and_false : (a b : Bool) → b ≡ false → false ≡ a && b
and_false true b h = sym h
and_false false b h = refl

pub false_and : (a b : Bool) → a ≡ false → false ≡ a && b
false_and true b h = absurd (false≢true (sym h))
false_and false b h = refl

module _ (b : List ℕ) where
  pub size_here : (rest p : ℕ) → 0 < rest → size_of (rows_from b rest p) ≡ field b (p + 4)
  unfolding size_of rows_from
  size_here zero p h = absurd (omega arith)
  size_here (suc n) p h = refl

  pub drop-from : (y rest p : ℕ) → y ≤ rest → drop y (rows_from b rest p) ≡ rows_from b (rest - y) (p + 6 * y)
  unfolding rows_from
  drop-from zero rest p h =
      let a : rest ≡ rest - 0 = omega arith in
      let c : p ≡ p + 6 * 0 = omega arith in
      ap (λ (n : ℕ). rows_from b n p) a ∙ ap (λ (n : ℕ). rows_from b (rest - 0) n) c
  drop-from (suc y) zero p h = absurd (omega arith)
  drop-from (suc y) (suc rest) p h =
      let a : rest - y ≡ suc rest - suc y = omega arith in
      let c : p + 6 + 6 * y ≡ p + 6 * suc y = omega arith in
      drop-from y rest (p + 6) (omega arith) ∙ ap (λ (n : ℕ). rows_from b n (p + 6 + 6 * y)) a ∙ ap (λ (n : ℕ). rows_from b (suc rest - suc y) n) c

  module _ (size rest p : ℕ) where
    pub tiles-next : (kids y more left : ℕ) → more + 1 ≡ kids → left + y ≡ rest → y ≡ field b (p + 4) → 0 < y → y ≤ size → size ≤ rest
        → tiles more (size - y) (rows_from b left (p + 6 * y)) ≡ tiles kids size (rows_from b rest p)
    unfolding tiles
    tiles-next zero y more left h f e z l r = absurd (omega arith)
    tiles-next (suc k) y more left h f e z l r =
        let less : more ≡ k = omega arith in
        let rows : rest - y ≡ left = omega arith in
        rw (size_here rest p (omega arith), ← e, lt-ltb 0 y z, le-leb y size l, drop-from y rest p (omega arith), less, rows)

    pub tiles_none : (kids : ℕ) → 0 < kids → 0 < rest → field b (p + 4) ≡ 0 → false ≡ tiles kids size (rows_from b rest p)
    unfolding tiles
    tiles_none zero h r e = absurd (omega arith)
    tiles_none (suc k) h r e = rw (size_here rest p r, e)

    pub tiles-over : (kids : ℕ) → 0 < kids → 0 < rest → size < field b (p + 4) → false ≡ tiles kids size (rows_from b rest p)
    unfolding tiles
    tiles-over zero h r e = absurd (omega arith)
    tiles-over (suc k) h r e = rw (size_here rest p r, lt-ltb 0 (field b (p + 4)) (omega arith), lt-leb (field b (p + 4)) size e)

    pub ok_next : (n c left more q : ℕ) → more + 1 ≡ left → q ≡ p + 6 → row_ok n (row_at b p) (rows_from b (left - 1) (p + 6)) ≡ true
        → rows_ok (counted n (row_at b p)) c (rows_from b more q) ≡ rows_ok n c (rows_from b left p)
    unfolding rows_ok rows_from
    ok_next n c zero more q h e k = absurd (omega arith)
    ok_next n c (suc left) more q h e k =
        let less : suc left - 1 ≡ left = omega arith in
        let same : more ≡ left = omega arith in
        rw (e, same) (rw (rw less at k))

    pub ok_fail : (n c left : ℕ) → 0 < left → row_ok n (row_at b p) (rows_from b (left - 1) (p + 6)) ≡ false → false ≡ rows_ok n c (rows_from b left p)
    unfolding rows_ok rows_from
    ok_fail n c zero h k = absurd (omega arith)
    ok_fail n c (suc left) h k = let less : suc left - 1 ≡ left = omega arith in false_and (row_ok n (row_at b p) (rows_from b left (p + 6))) _ (rw less at k)

    pub ok_end : (n c left : ℕ) → left ≤ 0 → eqb n c ≡ rows_ok n c (rows_from b left p)
    unfolding rows_ok rows_from
    ok_end n c zero h = refl
    ok_end n c (suc left) h = absurd (omega arith)

  module _ (at p : ℕ) where
    pub cite_off : (left : ℕ) → 0 < left → (texts_at b + field b at ≡ p → ⊥) → false ≡ cites_ok b left at p
    unfolding cites_ok
    cite_off zero h k = absurd (omega arith)
    cite_off (suc left) h k = rw (ne_eqb (texts_at b + field b at) p k)

    pub cite_long : (left : ℕ) → 0 < left → length b < p + field b (at + 2) → false ≡ cites_ok b left at p
    unfolding cites_ok
    cite_long zero h k = absurd (omega arith)
    cite_long (suc left) h k =
        and_false (eqb (texts_at b + field b at) p) _ (rw (lt-leb (p + field b (at + 2)) (length b) k))

    pub cite_text : (left n : ℕ) → 0 < left → n ≡ field b (at + 2) → citable (take n (drop p b)) ≡ false → false ≡ cites_ok b left at p
    unfolding cites_ok
    cite_text zero n h e k = absurd (omega arith)
    cite_text (suc left) n h e k =
        and_false (eqb (texts_at b + field b at) p) _ (sym (and_false (leb (p + field b (at + 2)) (length b)) _
        (sym (false_and (citable (take (field b (at + 2)) (drop p b))) _ (rw e at k)))))

    pub cite_next : (left n q more next : ℕ) → more + 1 ≡ left → next ≡ at + 4 → texts_at b + field b at ≡ p → n ≡ field b (at + 2) → q ≡ p + n → q ≤ length b → citable (take n (drop p b)) ≡ true
        → cites_ok b more next q ≡ cites_ok b left at p
    unfolding cites_ok
    cite_next zero n q more next h f o e g l k = absurd (omega arith)
    cite_next (suc left) n q more next h f o e g l k =
        let less : more ≡ left = omega arith in
        rw (less, f, g, eq-eqb (texts_at b + field b at) p o, ← e, le-leb (p + n) (length b) (omega arith), k)

    pub cite_end_lem : (left : ℕ) → left ≤ 0 → eqb p (length b) ≡ cites_ok b left at p
    unfolding cites_ok
    cite_end_lem zero h = refl
    cite_end_lem (suc left) h = absurd (omega arith)

no_room : (x : ℕ) → ltb 0 x && leb x 0 ≡ false
no_room zero = refl
no_room (suc x) = rw (lt-leb (suc x) 0 (omega arith)) (sym (and_false (ltb 0 (suc x)) false refl))

pub tiles_dry : (kids size : ℕ) (rs : List Row) → 0 < kids → size ≡ 0 → false ≡ tiles kids size rs
unfolding tiles
tiles_dry zero size rs h e = absurd (omega arith)
tiles_dry (suc k) size rs h e = rw (e, no_room (size_of rs))

pub tiles_end : (kids size : ℕ) (rs : List Row) → kids ≤ 0 → eqb size 0 ≡ tiles kids size rs
unfolding tiles
tiles_end zero size rs h = refl
tiles_end (suc k) size rs h = absurd (omega arith)

module _ (n m z : ℕ) (rs : List Row) where
  pub leaf_number : (k : ℕ) → k ≡ 0 → (m ≡ n → ⊥) → false ≡ row_ok n (row k m z) rs
  unfolding row_ok
  leaf_number zero h e = rw (ne_eqb m n e)
  leaf_number (suc k) h e = absurd (omega arith)

  pub leaf_size : (k : ℕ) → k ≡ 0 → m ≡ n → eqb z 1 ≡ row_ok n (row k m z) rs
  unfolding row_ok
  leaf_size zero h e = rw (eq-eqb m n e)
  leaf_size (suc k) h e = absurd (omega arith)

  pub inner_kind : (k : ℕ) → 4 < k → false ≡ row_ok n (row k m z) rs
  unfolding row_ok
  inner_kind zero h = absurd (omega arith)
  inner_kind (suc k) h = rw (le-ltb k 4 (omega arith))

  pub inner-few : (k : ℕ) → 0 < k → k ≤ 4 → m < 2 → false ≡ row_ok n (row k m z) rs
  unfolding row_ok
  inner-few zero h l e = absurd (omega arith)
  inner-few (suc k) h l e = rw (lt-ltb k 4 (omega arith), lt-leb 2 m e)

  pub inner_none : (k : ℕ) → 0 < k → k ≤ 4 → 2 ≤ m → z ≡ 0 → false ≡ row_ok n (row k m z) rs
  unfolding row_ok
  inner_none zero h l e g = absurd (omega arith)
  inner_none (suc k) h l e g = rw (lt-ltb k 4 (omega arith), le-leb 2 m e, g)

  pub inner_long : (k : ℕ) → 0 < k → k ≤ 4 → 2 ≤ m → 0 < z → suc (length rs) < z → false ≡ row_ok n (row k m z) rs
  unfolding row_ok
  inner_long zero h l e g o = absurd (omega arith)
  inner_long (suc k) h l e g o = rw (lt-ltb k 4 (omega arith), le-leb 2 m e, lt-ltb 0 z g, lt-leb z (suc (length rs)) o)

  pub inner-tiles : (k : ℕ) → 0 < k → k ≤ 4 → 2 ≤ m → 0 < z → z ≤ suc (length rs) → tiles m (z - 1) rs ≡ row_ok n (row k m z) rs
  unfolding row_ok
  inner-tiles zero h l e g o = absurd (omega arith)
  inner-tiles (suc k) h l e g o = rw (lt-ltb k 4 (omega arith), le-leb 2 m e, lt-ltb 0 z g, le-leb z (suc (length rs)) o)

pub counts_leaf : (n k m z : ℕ) → k ≡ 0 → n + 1 ≡ counted n (row k m z)
counts_leaf n zero m z h = omega arith
counts_leaf n (suc k) m z h = absurd (omega arith)

pub counts_inner : (n k m z : ℕ) → (k ≡ 0 → ⊥) → n ≡ counted n (row k m z)
counts_inner n zero m z h = absurd (h refl)
counts_inner n (suc k) m z h = refl

pub part_size : (p n : ℕ) (b : List ℕ) → citable (take (p + n - p) (drop p b)) ≡ citable (take n (drop p b))
part_size p n b = let e : p + n - p ≡ n = omega arith in ap (λ (x : ℕ). citable (take x (drop p b))) e

-- what cannot be true
pub refuted : (x : Bool) → (x ≡ true → ⊥) → false ≡ x
refuted true h = absurd (h refl)
refuted false h = refl

-- the header's last test, the others being passed
pub head_last : (b : List ℕ) → head_size ≤ length b → field b 4 ≡ head_size → field b 6 ≡ cites_at b → field b 8 ≡ texts_at b → field b 10 ≡ length b → cites b ≤ citation_limit → texts_at b ≤ length b
    → leb (length b) (texts_at b + cited_limit) ≡ head_ok b
unfolding head_ok
head_last b h0 h1 h2 h3 h4 h5 h6 =
    rw (le-leb head_size (length b) h0, eq-eqb (field b 4) head_size h1, eq-eqb (field b 6) (cites_at b) h2, eq-eqb (field b 8) (texts_at b) h3, eq-eqb (field b 10) (length b) h4, le-leb (cites b) citation_limit h5, le-leb (texts_at b) (length b) h6)

module _ (b : List ℕ) (n c : ℕ) where
  pub tree_head : head_ok b ≡ false → false ≡ is_tree b
  unfolding is_tree
  tree_head h = false_and (head_ok b) _ h

  pub tree_root : n ≡ nodes b → tiles 1 n (rows_from b n head_size) ≡ false → false ≡ is_tree b
  unfolding is_tree
  tree_root e h = and_false (head_ok b) _ (sym (false_and (tiles 1 (nodes b) (rows_in b)) _ (rw e at h)))

  pub tree_rows : n ≡ nodes b → c ≡ cites b → rows_ok 0 c (rows_from b n head_size) ≡ false → false ≡ is_tree b
  unfolding is_tree
  tree_rows e f h = and_false (head_ok b) _ (sym (and_false (tiles 1 (nodes b) (rows_in b)) _ (sym (false_and (rows_ok 0 (cites b) (rows_in b)) _ (rw (e, f) at h)))))

  pub tree_last : n ≡ nodes b → c ≡ cites b → head_ok b ≡ true → tiles 1 n (rows_from b n head_size) ≡ true → rows_ok 0 c (rows_from b n head_size) ≡ true
      → cites_ok b c (cites_from n) (texts_from n c) ≡ is_tree b
  unfolding is_tree
  tree_last e f h t r = rw (e, f, h, rw e at t, rw (e, f) at r)
