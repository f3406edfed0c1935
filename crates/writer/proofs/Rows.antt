-- One row more, one text more. Assumes nothing.
use mathlib.Core.Path.{◌≡◌, refl, sym, ap, ◌∙◌}
use mathlib.Core.List.{List, [], ◌∷◌, ◌++◌, append_assoc, append-nil}
use Prim.Native.Nat.{ℕ, zero, suc, ◌+◌, ◌*◌, ◌≤◌, ◌<◌}
use native.Mathlib.Numerals.{add-one}
use native.Mathlib.Nat.{add-zero}
use native.Mathlib.Omega.{arith}
use lib.ListN.{length, get_or, take, length-append}
use lib.Seq.{take-suc}
use Rattle.grammar.specs.Expr.{concat}
use Rattle.std.specs.Prelude.{map}
use Rattle.std.proofs.lemmas.List.{map-append, length-map}
use Rattle.grammar.specs.Rows.{Row, row, op_kind}
use Rattle.grammar.specs.Kinds.{kind_number}
use Rattle.grammar.specs.declared.NodeKind.{NodeKind}
use Rattle.grammar.specs.declared.NodeKind.TheVariants.{Citation, Then, And, Or, Xor}
use Rattle.fields.specs.Appended.{Appended}
use Rattle.grammar.specs.Bytes.{two_bytes, head_bytes, row_bytes, cite_bytes}
use Rattle.lexer.specs.Tokens.{placed, cut, cuts}
use Rattle.lexer.specs.declared.Place.{Place}
use Rattle.writer.specs.Unpacked.{numbered_row}

rows_append : (a b : List Row) → row_bytes (a ++ b) ≡ row_bytes a ++ row_bytes b
unfolding row_bytes
rows_append [] b = refl
rows_append (row k m z ∷ a) b = rw (rows_append a b) (simp append_assoc)

rows_size : (rs : List Row) → length (row_bytes rs) ≡ 6 * length rs
unfolding row_bytes two_bytes
rows_size [] = refl
rows_size (row k m z ∷ rs) = omega (arith, rows_size rs)

-- rows that are written from something each: the bytes of the first ones, and of one more
module _ {A : Type 0} (f : A → Row) (vs : List A) where
  pub rows_next : (i : ℕ) (d : A) → i < length vs → row_bytes (map f (take i vs)) ++ row_bytes (f (get_or vs i d) ∷ []) ≡ row_bytes (map f (take (i + 1) vs))
  rows_next i d h =
      rw (add-one i, take-suc vs i d h, map-append f (take i vs) (get_or vs i d ∷ []))
      (sym (rows_append (map f (take i vs)) (f (get_or vs i d) ∷ [])))

  -- six bytes a row
  pub rows_long : length (row_bytes (map f vs)) ≡ 6 * length vs
  rows_long = rows_size (map f vs) ∙ ap (λ (x : ℕ). 6 * x) (length-map vs f)

  -- the bytes of no rows
  pub rows_none : row_bytes (map f (take 0 vs)) ≡ []
  unfolding row_bytes
  rows_none = refl

-- the bytes of one row
pub row-bytes : (n : ℕ × ℕ × ℕ) → row_bytes (numbered_row n ∷ []) ≡ two_bytes n.0 ++ (two_bytes n.1 ++ two_bytes n.2)
unfolding row_bytes
row-bytes n = rw (append-nil (two_bytes n.2))

-- a kind's number is a field
pub kind_small : (k : NodeKind) → kind_number k < 65536
unfolding kind_number op_kind
kind_small Citation = omega arith
kind_small Then = omega arith
kind_small And = omega arith
kind_small Or = omega arith
kind_small Xor = omega arith

cuts_append : (s : List ℕ) (a b : List Place) → cuts s (a ++ b) ≡ cuts s a ++ cuts s b
unfolding cuts
cuts_append s [] b = refl
cuts_append s (v ∷ a) b = ap (λ x. cut s v ∷ x) (cuts_append s a b)

one_cut : (s : List ℕ) (v : Place) → cuts s (v ∷ []) ≡ cut s v ∷ []
unfolding cuts
one_cut s v = refl

-- the texts at the first places, and one more
pub cuts-next : (s : List ℕ) (vs : List Place) (i : ℕ) → i < length vs → cuts s (take (i + 1) vs) ≡ cuts s (take i vs) ++ (cut s (get_or vs i (placed 0 0)) ∷ [])
cuts-next s vs i h =
    rw (add-one i, take-suc vs i (placed 0 0) h) (cuts_append s (take i vs) (get_or vs i (placed 0 0) ∷ []) ∙ ap (λ x. cuts s (take i vs) ++ x) (one_cut s (get_or vs i (placed 0 0))))

concat_append : (a b : List (List ℕ)) → concat (a ++ b) ≡ concat a ++ concat b
unfolding concat
concat_append [] b = refl
concat_append (t ∷ a) b = rw (concat_append a b) (sym (append_assoc t (concat a) (concat b)))

one_text : (t : List ℕ) → concat (t ∷ []) ≡ t
unfolding concat
one_text t = append-nil t

-- the bytes of the first texts, and of one more
pub texts-next : (s : List ℕ) (vs : List Place) (i : ℕ) → i < length vs → concat (cuts s (take i vs)) ++ cut s (get_or vs i (placed 0 0)) ≡ concat (cuts s (take (i + 1) vs))
texts-next s vs i h =
    let t = cut s (get_or vs i (placed 0 0)) in
    sym (ap concat (cuts-next s vs i h) ∙ concat_append (cuts s (take i vs)) (t ∷ []) ∙ ap (λ x. concat (cuts s (take i vs)) ++ x) (one_text t))

-- the bytes of no texts
pub texts_none : (s : List ℕ) (vs : List Place) → concat (cuts s (take 0 vs)) ≡ []
unfolding concat cuts
texts_none s vs = refl

-- the citation rows of no texts
pub cites_none : (s : List ℕ) (vs : List Place) → cite_bytes 0 (cuts s (take 0 vs)) ≡ []
unfolding cite_bytes cuts
cites_none s vs = refl

cites_more : (o : ℕ) (ts : List (List ℕ)) (t : List ℕ) → cite_bytes o (ts ++ (t ∷ [])) ≡ cite_bytes o ts ++ (two_bytes (o + length (concat ts)) ++ two_bytes (length t))
unfolding cite_bytes concat
cites_more o [] t = let z : o + 0 ≡ o = add-zero o in rw (z, append-nil (two_bytes (length t)))
cites_more o (u ∷ ts) t =
    let sum : o + length u + length (concat ts) ≡ o + length (u ++ concat ts) = omega (arith, length-append u (concat ts)) in
    rw (cites_more (o + length u) ts t, sum) (simp append_assoc)

-- the citation rows of the first texts, and of one more
pub cites-next : (s : List ℕ) (vs : List Place) (i o n : ℕ) → i < length vs → o ≡ length (concat (cuts s (take i vs))) → n ≡ length (cut s (get_or vs i (placed 0 0)))
    → cite_bytes 0 (cuts s (take i vs)) ++ (two_bytes o ++ two_bytes n) ≡ cite_bytes 0 (cuts s (take (i + 1) vs))
cites-next s vs i o n h e f =
    let ts = cuts s (take i vs) in
    let t = cut s (get_or vs i (placed 0 0)) in
    let g : o ≡ 0 + length (concat ts) = omega arith in
    rw (g, f) (sym (ap (cite_bytes 0) (cuts-next s vs i h) ∙ cites_more 0 ts t))

-- four bytes a citation row
pub cites_size : (o : ℕ) (ts : List (List ℕ)) → length (cite_bytes o ts) ≡ 4 * length ts
unfolding cite_bytes two_bytes
cites_size o [] = refl
cites_size o (t ∷ ts) = omega (arith, cites_size (o + length t) ts)

-- as many texts as places
pub cuts-count : (s : List ℕ) (vs : List Place) → length (cuts s vs) ≡ length vs
unfolding cuts
cuts-count s [] = refl
cuts-count s (v ∷ vs) = ap suc (cuts-count s vs)

-- the first texts are no longer than all
pub size_all : (s : List ℕ) (vs : List Place) (i : ℕ) → length (concat (cuts s (take i vs))) ≤ length (concat (cuts s vs))
unfolding concat cuts
size_all s vs zero = omega arith
size_all s [] (suc i) = omega arith
size_all s (v ∷ vs) (suc i) =
    omega (arith, size_all s vs i, length-append (cut s v) (concat (cuts s vs)), length-append (cut s v) (concat (cuts s (take i vs))))

-- the lengths of the first texts, and of one more
pub size_next : (s : List ℕ) (vs : List Place) (i : ℕ) → i < length vs → length (concat (cuts s (take (i + 1) vs))) ≡ length (concat (cuts s (take i vs))) + length (cut s (get_or vs i (placed 0 0)))
size_next s vs i h = ap length (sym (texts-next s vs i h)) ∙ length-append (concat (cuts s (take i vs))) (cut s (get_or vs i (placed 0 0)))

head_size_lem : (n c t : ℕ) → length (head_bytes n c t) ≡ 12
unfolding head_bytes two_bytes
head_size_lem n c t = refl

-- a row ends six bytes on
pub ends-row : (r : Row) {at q : ℕ} {old new : List ℕ} → Appended (row_bytes (r ∷ [])) at old new q → q ≡ at + 6
ends-row r {at} h = h.ends ∙ ap (λ (x : ℕ). at + x) (rows_size (r ∷ []))

-- the header ends at byte 12
pub ends_head : (n c t : ℕ) {at q : ℕ} {old new : List ℕ} → Appended (head_bytes n c t) at old new q → q ≡ at + 12
ends_head n c t {at} h = h.ends ∙ ap (λ (x : ℕ). at + x) (head_size_lem n c t)

-- the header's fields
pub head_bytes_lem : (n c t : ℕ)
    → two_bytes n ++ (two_bytes c ++ (two_bytes 12 ++ (two_bytes (12 + 6 * n) ++ (two_bytes (12 + 6 * n + 4 * c) ++ two_bytes (12 + 6 * n + 4 * c + t))))) ≡ head_bytes n c t
unfolding head_bytes
head_bytes_lem n c t = refl

-- four bytes a place
pub cites_long : (s : List ℕ) (ps : List Place) → length (cite_bytes 0 (cuts s ps)) ≡ 4 * length ps
cites_long s ps = cites_size 0 (cuts s ps) ∙ ap (λ (x : ℕ). 4 * x) (cuts-count s ps)
