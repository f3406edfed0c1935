-- What bytes have that pass the test for a tree. That they are those of an expression that fits stands in proofs/Trees. Assumes nothing.
use Rattle.std.specs.Prelude.{◌≡◌, List, true, ◌&&◌, ℕ, ◌+◌, ◌≤◌, eqb, leb, length, drop}
use Rattle.std.proofs.Common.{eqb-true, leb-true}
use Rattle.laws.specs.Tests.{and_both}
use Rattle.grammar.specs.Expr.{Expr, Exprs, none, ◌◂◌, Wide, citations}
use Rattle.grammar.specs.Reading.{citation_limit, cited_limit, Fits}
use Rattle.grammar.specs.Rows.{Row, rows}
use Rattle.grammar.specs.Bytes.{head_size, cites_from, texts_from, bytes_of, field, nodes, cites, cites_at, texts_at, rows_in, texts_in, head_ok, tiles, rows_ok, cites_ok}

-- what is read back of a header
pub record Header (b : List ℕ) (n c t : ℕ) (x : List ℕ) : Type 0 where
  pub h0 : field b 0 ≡ n
  pub h1 : field b 2 ≡ c
  pub h2 : field b 4 ≡ head_size
  pub h3 : field b 6 ≡ cites_from n
  pub h4 : field b 8 ≡ texts_from n c
  pub h5 : field b 10 ≡ texts_from n c + t
  pub rest : drop head_size b ≡ x

-- what is read back of rows and texts
pub record Reads (b : List ℕ) (rs : List Row) (ts : List (List ℕ)) : Type 0 where
  pub noded : nodes b ≡ length rs
  pub counts : cites b ≡ length ts
  pub rowed : rows_in b ≡ rs
  pub texted : texts_in b ≡ ts
  pub headed : head_ok b ≡ true
  pub cited : cites_ok b (cites b) (cites_at b) (texts_at b) ≡ true

-- what the test says of the header
pub record Headed (b : List ℕ) : Type 0 where
  pub long : head_size ≤ length b
  pub rowed : field b 4 ≡ head_size
  pub cited : field b 6 ≡ cites_at b
  pub texted : field b 8 ≡ texts_at b
  pub ended : field b 10 ≡ length b
  pub few : cites b ≤ citation_limit
  pub inside : texts_at b ≤ length b
  pub small : length b ≤ texts_at b + cited_limit

-- the header of bytes that pass the test
pub headed : (b : List ℕ) → head_ok b ≡ true → Headed b
unfolding head_ok
headed b h =
    let t7 = leb (length b) (texts_at b + cited_limit) in
    let t6 = leb (texts_at b) (length b) && t7 in
    let t5 = leb (cites b) citation_limit && t6 in
    let t4 = eqb (field b 10) (length b) && t5 in
    let t3 = eqb (field b 8) (texts_at b) && t4 in
    let t2 = eqb (field b 6) (cites_at b) && t3 in
    let t1 = eqb (field b 4) head_size && t2 in
    let h0 = and_both (leb head_size (length b)) t1 h in
    let h1 = and_both (eqb (field b 4) head_size) t2 h0.1 in
    let h2 = and_both (eqb (field b 6) (cites_at b)) t3 h1.1 in
    let h3 = and_both (eqb (field b 8) (texts_at b)) t4 h2.1 in
    let h4 = and_both (eqb (field b 10) (length b)) t5 h3.1 in
    let h5 = and_both (leb (cites b) citation_limit) t6 h4.1 in
    let h6 = and_both (leb (texts_at b) (length b)) t7 h5.1 in
    record {
      long = leb-true head_size (length b) h0.0;
      rowed = eqb-true (field b 4) head_size h1.0;
      cited = eqb-true (field b 6) (cites_at b) h2.0;
      texted = eqb-true (field b 8) (texts_at b) h3.0;
      ended = eqb-true (field b 10) (length b) h4.0;
      few = leb-true (cites b) citation_limit h5.0;
      inside = leb-true (texts_at b) (length b) h6.0;
      small = leb-true (length b) (texts_at b + cited_limit) h6.1;
    }

-- what the test says of the whole
pub record Tests (b : List ℕ) : Type 0 where
  pub head : Headed b
  pub root : tiles 1 (nodes b) (rows_in b) ≡ true
  pub rowed : rows_ok 0 (cites b) (rows_in b) ≡ true
  pub cited : cites_ok b (cites b) (cites_at b) (texts_at b) ≡ true

-- the one expression that operands are
pub record Only (es : Exprs) : Type 0 where
  pub root : Expr
  pub only : es ≡ root ◂ none

-- the expression that rows with one root stand for
pub record Rooted (texts : List (List ℕ)) (rs : List Row) : Type 0 where
  pub root : Expr
  pub wide : Wide root
  pub is : rs ≡ rows 0 root
  pub cited : citations root ≡ texts

-- bytes that are a tree: those of an expression that fits, whoever made them
pub record IsTree (b : List ℕ) : Type 0 where
  pub expr : Expr
  pub fits : Fits expr
  pub is : b ≡ bytes_of expr
