-- A tree as node rows, and the trees that rows stand for. Assumes nothing.
use Rattle.std.specs.Prelude.{◌≡◌, refl, length, get_or, drop}
use Rattle.std.proofs.Math.Path.{sym, ap}
use Rattle.std.proofs.Common.{◌∙◌, add-zero, drop-drop, get_or-drop}
use mathlib.Core.List.{List, [], ◌∷◌, ◌++◌, append_assoc, append-nil}
use Prim.Native.Nat.{ℕ, ◌+◌}
use Rattle.std.proofs.Math.Seq.{drop-append_seam}
use Rattle.grammar.specs.Expr.{And, Or, Xor, Expr, Exprs, cite, Then, join, none, more, ◌◂◌, ◌⧺◌, citations, citations_of, count}
use Rattle.grammar.proofs.Expr.{append_none}
use Rattle.grammar.specs.Rows.{Row, op_kind, many, node, rows, rows_of, firsts, rests, made, place, build}

-- the first of trees
pub firsts-all : (es st : Exprs) → firsts (many es) (es ⧺ st) ≡ es
unfolding firsts many ◌⧺◌
firsts-all none st = refl
firsts-all (more e es) st = ap (more e) (firsts-all es st)

-- the trees after the first
pub rests-all : (es st : Exprs) → rests (many es) (es ⧺ st) ≡ st
unfolding rests many ◌⧺◌
rests-all none st = refl
rests-all (more e es) st = rests-all es st

module _ (texts : List (List ℕ)) where
  -- from the number n on, these texts are cited, and then the rest
  abbrev At : ℕ → List (List ℕ) → List (List ℕ) → Type 0
  At n ts rest = drop n texts ≡ ts ++ rest

  at_first : (n : ℕ) (t : List ℕ) (rest : List (List ℕ)) → At n (t ∷ []) rest → get_or texts n [] ≡ t
  at_first n t rest h = sym (rw add-zero at (get_or-drop n texts 0 [])) ∙ rw h

  at_next : (n : ℕ) (a b rest : List (List ℕ)) → At n (a ++ b) rest → At (n + length a) b rest
  at_next n a b rest h = sym (drop-drop (length a) n texts) ∙ rw (h, append_assoc) (drop-append_seam a (b ++ rest))

  mutual
    unfolding rows build place made node op_kind citations ◌⧺◌

    build_rows : (e : Expr) (n : ℕ) (rest : List (List ℕ)) → At n (citations e) rest → (rs : List Row)
        → build texts (rows n e ++ rs) ≡ e ◂ build texts rs
    build_rows (cite t) n rest h rs = rw (at_first n t rest h)
    build_rows (Then es) n rest h rs = rw (build_rows_of es n rest h rs, firsts-all es (build texts rs), rests-all es (build texts rs))
    build_rows (join And es) n rest h rs = rw (build_rows_of es n rest h rs, firsts-all es (build texts rs), rests-all es (build texts rs))
    build_rows (join Or es) n rest h rs = rw (build_rows_of es n rest h rs, firsts-all es (build texts rs), rests-all es (build texts rs))
    build_rows (join Xor es) n rest h rs = rw (build_rows_of es n rest h rs, firsts-all es (build texts rs), rests-all es (build texts rs))

    -- rows of trees stand for these trees
    pub build_rows_of : (es : Exprs) (n : ℕ) (rest : List (List ℕ)) → At n (citations_of es) rest → (rs : List Row)
        → build texts (rows_of n es ++ rs) ≡ es ⧺ build texts rs
    build_rows_of none n rest h rs = refl
    build_rows_of (more e es) n rest h rs =
        rw (append_assoc (rows n e) (rows_of (n + count e) es) rs)
        (build_rows e n (citations_of es ++ rest) (rw append_assoc at h) (rows_of (n + count e) es ++ rs)
        ∙ ap (more e) (build_rows_of es (n + count e) rest (at_next n (citations e) (citations_of es) rest h) rs))

  pub builds : (n : ℕ) (st : Exprs) → drop n texts ≡ citations_of st → build texts (rows_of n st) ≡ st
  unfolding build
  builds n st h =
      rw (append-nil (rows_of n st), append_none st) at (build_rows_of st n [] (h ∙ sym (append-nil (citations_of st))) [])

-- the rows and texts of a tree stand for it
pub built : (e : Expr) → build (citations e) (rows 0 e) ≡ e ◂ none
unfolding citations_of rows_of
built e = rw (append-nil (rows 0 e)) at (builds (citations e) 0 (e ◂ none) (sym (append-nil (citations e))))
