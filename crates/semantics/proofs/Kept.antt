-- Relations between truths that the rules of format truth keep: what holds of each citation holds of the whole, and the violations stay where False does. Assumes nothing.
use Rattle.std.specs.Prelude.{◌≡◌, refl, List, [], ◌∷◌, ◌++◌, Bool, true, not, ◌&&◌, ◌||◌, ℕ, ◌+◌, length, get_or}
use Rattle.std.proofs.Common.{sym, ap, ◌∙◌, arith, length-append, get_or-append-add}
use Rattle.std.proofs.Math.ListN.{get_or-append}
use Rattle.std.proofs.Math.Nat.{add-zero}
use Rattle.citation.specs.declared.Truth.{Truth}
use Rattle.grammar.specs.Expr.{Op, And, Or, Xor, Expr, Exprs, cite, Then, join, none, more, citations, citations_of, count}
use Rattle.semantics.specs.Rules.{is_false, any, and_rule, or_rule}
use Rattle.semantics.specs.Truth.{Counts, format_rule, truth_with, truths_with}
use Rattle.semantics.specs.Violations.{fails, violations_with, violations_of}
use Rattle.semantics.specs.Pairs.{pair, each2, same}
use Rattle.semantics.proofs.Pairs.{rule_none, rule_more, at2, same_is}
use Rattle.semantics.specs.Kept.{keeps, Kept, EachCited}

module _ (r : Truth → Truth → Bool) (k : Kept r) where
  kept_pair : (f : Truth → Truth → Truth) → keeps r f ≡ true → (a a' b b' : Truth) → r a a' ≡ true → r b b' ≡ true → r (f a b) (f a' b') ≡ true
  kept_pair f h a a' b b' p q =
      let fits : Truth → Truth → Truth → Truth → Bool = λ a a' b b'. not (r a a' && r b b') || r (f a b) (f a' b') in
      rw (p, q) at (at2 (fits a a') (at2 (λ a a'. each2 (fits a a')) h a a') b b')

  -- it holds of nothing joined
  pub kept_none : (o : Op) → r (format_rule o []) (format_rule o []) ≡ true
  kept_none o = rw (rule_none o) k.none

  -- it holds of all joined if it holds of the first and of the others joined
  pub kept_more : (o : Op) (v w : Truth) (vs ws : List Truth)
      → r v w ≡ true → r (format_rule o vs) (format_rule o ws) ≡ true → r (format_rule o (v ∷ vs)) (format_rule o (w ∷ ws)) ≡ true
  kept_more o v w vs ws h hs = rw (rule_more o v vs, rule_more o w ws) (by o (format_rule o vs) (format_rule o ws) hs)
    where
      by : (o : Op) (x y : Truth) → r x y ≡ true → r (pair o v x) (pair o w y) ≡ true
      by And x y g = kept_pair (pair And) k.and v w x y h g
      by Or x y g = kept_pair (pair Or) k.or v w x y h g
      by Xor x y g = kept_pair (pair Or) k.or v w x y h g

module _ (r : Truth → Truth → Bool) (c d : Counts) where
  -- the first of the texts
  first_cited : (n : ℕ) (ts us : List (List ℕ)) → EachCited r c d n (ts ++ us) → EachCited r c d n ts
  first_cited n ts us h i l =
      let here = get_or-append ts us [] i l in
      ap (λ t. r (c (n + i) t) (d (n + i) t)) (sym here) ∙ h i (omega (arith, length-append ts us))

  -- and the others
  rest_cited : (n : ℕ) (ts us : List (List ℕ)) → EachCited r c d n (ts ++ us) → EachCited r c d (n + length ts) us
  rest_cited n ts us h i l =
      let there = get_or-append-add ts us i [] in
      let k : n + length ts + i ≡ n + (length ts + i) = omega arith in
      ap (λ (x : ℕ). r (c x (get_or us i [])) (d x (get_or us i []))) k
      ∙ ap (λ t. r (c (n + (length ts + i)) t) (d (n + (length ts + i)) t)) (sym there) ∙ h (length ts + i) (omega (arith, length-append ts us))

  module _ (k : Kept r) where
    mutual
      unfolding truth_with citations

      -- it holds of the whole if it holds of each citation
      pub truth_kept : (n : ℕ) (e : Expr) → EachCited r c d n (citations e) → r (truth_with c n e) (truth_with d n e) ≡ true
      truth_kept n (cite t) h = rw add-zero at (h 0 (omega arith))
      truth_kept n (Then es) h = truths_kept And n es h
      truth_kept n (join o es) h = truths_kept o n es h

      truths_kept : (o : Op) (n : ℕ) (es : Exprs) → EachCited r c d n (citations_of es) → r (format_rule o (truths_with c n es)) (format_rule o (truths_with d n es)) ≡ true
      truths_kept o n none h = kept_none r k o
      truths_kept o n (more e es) h =
          kept_more r k o (truth_with c n e) (truth_with d n e) (truths_with c (n + count e) es) (truths_with d (n + count e) es)
          (truth_kept n e (first_cited n (citations e) (citations_of es) h)) (truths_kept o (n + count e) es (rest_cited n (citations e) (citations_of es) h))

  module _ (k : Kept r) (h : (v w : Truth) → r v w ≡ true → is_false v ≡ is_false w) where
    -- where it does not tell False from another truth, the same expressions are False
    fails_kept : (n : ℕ) (e : Expr) → EachCited r c d n (citations e) → fails c n e ≡ fails d n e
    fails_kept n e g = h (truth_with c n e) (truth_with d n e) (truth_kept k n e g)

    mutual
      unfolding violations_with citations

      -- and the violations are the same
      pub violations_kept : (n : ℕ) (e : Expr) → EachCited r c d n (citations e) → violations_with c n e ≡ violations_with d n e
      violations_kept n (cite t) g = rw (fails_kept n (cite t) g)
      violations_kept n (Then es) g = rw (fails_kept n (Then es) g, violations_kept_of n es g)
      violations_kept n (join o es) g = rw (fails_kept n (join o es) g, violations_kept_of n es g)

      violations_kept_of : (n : ℕ) (es : Exprs) → EachCited r c d n (citations_of es) → violations_of c n es ≡ violations_of d n es
      violations_kept_of n none g = refl
      violations_kept_of n (more e es) g =
          rw (violations_kept n e (first_cited n (citations e) (citations_of es) g), violations_kept_of (n + count e) es (rest_cited n (citations e) (citations_of es) g))

-- being the same is kept
same_kept : Kept same
unfolding and_rule or_rule any
same_kept = record { none = refl; and = refl; or = refl }

module _ (c d : Counts) where
  -- the format truth of what both count the same
  pub truth_same : (n : ℕ) (e : Expr) → EachCited same c d n (citations e) → truth_with c n e ≡ truth_with d n e
  truth_same n e g = same_is (truth_with c n e) (truth_with d n e) (truth_kept same c d same_kept n e g)

  -- and its violations
  pub violations_same : (n : ℕ) (e : Expr) → EachCited same c d n (citations e) → violations_with c n e ≡ violations_with d n e
  violations_same = violations_kept same c d same_kept (λ v w g. ap is_false (same_is v w g))
