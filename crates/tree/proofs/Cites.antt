-- A citation's text, by its row. Assumes nothing.
use mathlib.Core.Path.{◌≡◌, ◌∙◌}
use mathlib.Core.List.{List, []}
use mathlib.Core.Bool.{true, ◌&&◌}
use Prim.Native.Nat.{ℕ, zero, suc, ◌+◌, ◌*◌, ◌≤◌, ◌<◌}
use native.Mathlib.Omega.{arith}
use lib.Dec.{eqb, leb}
use lib.ListN.{length, get_or, take, drop, length-append, length-drop}
use lib.Seq.{length-take-le}
use borrow.Author.Tests.{eqb-true, leb-true}
use Rattle.laws.specs.Tests.{and_both}
use Rattle.grammar.specs.Expr.{concat}
use Rattle.grammar.specs.Citable.{citable, AllCitable}
use Rattle.grammar.specs.Bytes.{head_size, row_size, cite_size, field, nodes, cites, cites_at, texts_at, cited_from, texts_in, cites_ok, is_tree}
use Rattle.grammar.proofs.Trees.{tests}
use Rattle.tree.specs.Walk.{text_at, text_from, text_size}

-- what the test says of the first of the citation rows from a byte on
record Head (b : List ℕ) (c at p : ℕ) : Type 0 where
  pub offset : texts_at b + field b at ≡ p
  pub inside : p + field b (at + 2) ≤ length b
  pub valid : citable (take (field b (at + 2)) (drop p b)) ≡ true
  pub size : length (take (field b (at + 2)) (drop p b)) ≡ field b (at + 2)
  pub rest : cites_ok b c (at + cite_size) (p + field b (at + 2)) ≡ true

head : (b : List ℕ) (c at p : ℕ) → cites_ok b (suc c) at p ≡ true → Head b c at p
unfolding cites_ok
head b c at p k =
    let n = field b (at + 2) in
    let t = take n (drop p b) in
    let k1 = and_both (eqb (texts_at b + field b at) p) (leb (p + n) (length b) && (citable t && cites_ok b c (at + cite_size) (p + n))) k in
    let k2 = and_both (leb (p + n) (length b)) (citable t && cites_ok b c (at + cite_size) (p + n)) k1.1 in
    let k3 = and_both (citable t) (cites_ok b c (at + cite_size) (p + n)) k2.1 in
    let l : p + n ≤ length b = leb-true (p + n) (length b) k2.0 in
    record {
      offset = eqb-true (texts_at b + field b at) p k1.0;
      inside = l;
      valid = k3.0;
      size = length-take-le n (drop p b) (omega (arith, length-drop p b));
      rest = k3.1;
    }

-- the citation n of those whose rows stand from the byte `at` on, and whose texts from the byte p on
record Cite (b : List ℕ) (c at p n : ℕ) : Type 0 where
  pub inside : texts_at b + field b (at + cite_size * n) + field b (at + cite_size * n + 2) ≤ length b
  pub text : get_or (cited_from b c at p) n [] ≡ take (field b (at + cite_size * n + 2)) (drop (texts_at b + field b (at + cite_size * n)) b)
  pub valid : citable (get_or (cited_from b c at p) n []) ≡ true
  pub size : length (get_or (cited_from b c at p) n []) ≡ field b (at + cite_size * n + 2)
  pub from : texts_at b + field b (at + cite_size * n) ≡ p + length (concat (take n (cited_from b c at p)))

cite_here : (b : List ℕ) (c at p : ℕ) → Head b c at p → Cite b (suc c) at p 0
unfolding cited_from concat
cite_here b c at p h =
    let z : at + cite_size * 0 ≡ at = omega arith in
    record {
      inside = rw z (omega (arith, h.offset, h.inside));
      text = rw (z, h.offset);
      valid = h.valid;
      size = rw z h.size;
      from = rw z (omega (arith, h.offset));
    }

cite_there : (b : List ℕ) (c at p n : ℕ) → Head b c at p → Cite b c (at + cite_size) (p + field b (at + 2)) n → Cite b (suc c) at p (suc n)
unfolding cited_from concat
cite_there b c at p n h k =
    let z : at + cite_size + cite_size * n ≡ at + cite_size * suc n = omega arith in
    let t = take (field b (at + 2)) (drop p b) in
    let ts = take n (cited_from b c (at + cite_size) (p + field b (at + 2))) in
    record {
      inside = rw z at k.inside;
      text = k.text ∙ rw z;
      valid = k.valid;
      size = rw z at k.size;
      from = rw z at k.from ∙ omega (arith, length-append t (concat ts), h.size);
    }

cite_at : (b : List ℕ) (c at p n : ℕ) → cites_ok b c at p ≡ true → n < c → Cite b c at p n
cite_at b zero at p n k l = absurd (omega arith)
cite_at b (suc c) at p zero k l = cite_here b c at p (head b c at p k)
cite_at b (suc c) at p (suc n) k l =
    let h = head b c at p k in
    cite_there b c at p n h (cite_at b c (at + cite_size) (p + field b (at + 2)) n h.rest (omega arith))

-- the texts stand one after another, and are citable
pub texts-stand : (b : List ℕ) (c at p : ℕ) → cites_ok b c at p ≡ true → (p + length (concat (cited_from b c at p)) ≡ length b) × AllCitable (cited_from b c at p)
unfolding cites_ok cited_from concat
texts-stand b zero at p k = (omega (arith, eqb-true p (length b) k), tt)
texts-stand b (suc c) at p k =
    let h = head b c at p k in
    let r = texts-stand b c (at + cite_size) (p + field b (at + 2)) h.rest in
    (omega (arith, r.0, h.size, length-append (take (field b (at + 2)) (drop p b)) (concat (cited_from b c (at + cite_size) (p + field b (at + 2))))), (h.valid, r.1))

module _ (b : List ℕ) (h : is_tree b ≡ true) (n : ℕ) (l : n < cites b) where
  here : Cite b (cites b) (cites_at b) (texts_at b) n
  here = cite_at b (cites b) (cites_at b) (texts_at b) n (tests b h).cited l

  -- a citation's text stands inside the tree
  pub text_inside : text_from b n + text_size b n ≤ length b
  text_inside = here.inside

  -- the text, by its place
  pub text_is : text_at b n ≡ take (text_size b n) (drop (text_from b n) b)
  unfolding text_at
  text_is = here.text

  -- the text's length
  pub text_size_lem : length (text_at b n) ≡ text_size b n
  unfolding text_at
  text_size_lem = here.size

  -- it is citable
  pub text_citable : citable (text_at b n) ≡ true
  unfolding text_at
  text_citable = here.valid

  -- the texts before it stand before it
  pub text_from_lem : text_from b n ≡ texts_at b + length (concat (take n (texts_in b)))
  text_from_lem = here.from

-- the place, from the counts and the row as they were read
pub from-read : (b : List ℕ) (n x y z : ℕ) → x ≡ nodes b → y ≡ cites b → z ≡ field b (head_size + row_size * x + cite_size * n) → head_size + row_size * x + cite_size * y + z ≡ text_from b n
from-read b n x y z e f g = rw (g, e, f)

-- the length, from the count and the row as they were read
pub size_read : (b : List ℕ) (n x z : ℕ) → x ≡ nodes b → z ≡ field b (head_size + row_size * x + cite_size * n + 2) → z ≡ text_size b n
size_read b n x z e g = rw (← e) g
