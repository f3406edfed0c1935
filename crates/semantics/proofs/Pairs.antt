-- The rules of format truth, one operand joined to the others, and laws over all truths that are found by computing. Assumes nothing.
use Rattle.std.specs.Prelude.{◌≡◌, refl, List, [], ◌∷◌, Bool, true, false, cond, ◌&&◌, ◌||◌}
use Rattle.std.proofs.Math.Bool.{or-true}
use Rattle.std.proofs.Common.{eqb-true, eq-eqb}
use Rattle.laws.specs.Tests.{and_both}
use Rattle.citation.specs.declared.Truth.{Truth}
use Rattle.citation.specs.declared.Truth.TheVariants.{False, Unknown, True, Neutral}
use Rattle.citation.specs.Truths.{truth_number, truth_number_injective}
use Rattle.grammar.specs.Expr.{Op, And, Or, Xor}
use Rattle.semantics.specs.Rules.{is_false, is_unknown, is_true, any, and_rule, or_rule}
use Rattle.semantics.specs.Truth.{format_rule}
use Rattle.semantics.specs.Pairs.{pair, each, each2, same}

and_more : (v : Truth) (vs : List Truth) → and_rule (v ∷ vs) ≡ pair And v (and_rule vs)
unfolding and_rule any
and_more v vs = by (any is_false vs) (any is_unknown vs) (any is_true vs)
  where
    by : (f u t : Bool)
        → cond (is_false v || f) False (cond (is_unknown v || u) Unknown (cond (is_true v || t) True Neutral))
        ≡ and_rule (v ∷ cond f False (cond u Unknown (cond t True Neutral)) ∷ [])
    by true u t = rw (or-true (is_false v))
    by false true t = rw (or-true (is_unknown v))
    by false false true = refl
    by false false false = refl

or_more : (v : Truth) (vs : List Truth) → or_rule (v ∷ vs) ≡ pair Or v (or_rule vs)
unfolding or_rule any
or_more v vs = by (any is_true vs) (any is_unknown vs) (any is_false vs)
  where
    by : (t u f : Bool)
        → cond (is_true v || t) True (cond (is_unknown v || u) Unknown (cond (is_false v || f) False Neutral))
        ≡ or_rule (v ∷ cond t True (cond u Unknown (cond f False Neutral)) ∷ [])
    by true u f = rw (or-true (is_true v))
    by false true f = rw (or-true (is_unknown v))
    by false false true = refl
    by false false false = refl

-- one truth more is joined to what the others say
pub rule_more : (o : Op) (v : Truth) (vs : List Truth) → format_rule o (v ∷ vs) ≡ pair o v (format_rule o vs)
rule_more And = and_more
rule_more Or = or_more
rule_more Xor = or_more

-- nothing joined is Neutral
pub rule_none : (o : Op) → format_rule o [] ≡ Neutral
unfolding and_rule or_rule any
rule_none And = refl
rule_none Or = refl
rule_none Xor = refl

-- a Then or an And is False exactly if an operand is
pub and_false : (vs : List Truth) → is_false (and_rule vs) ≡ any is_false vs
unfolding and_rule
and_false vs = by (any is_false vs) (any is_unknown vs) (any is_true vs)
  where
    by : (f u t : Bool) → is_false (cond f False (cond u Unknown (cond t True Neutral))) ≡ f
    by true u t = refl
    by false true t = refl
    by false false true = refl
    by false false false = refl

-- what holds of each truth holds of this one
pub at : (p : Truth → Bool) → each p ≡ true → (v : Truth) → p v ≡ true
at p h v =
    let f = and_both (p False) (p Unknown && (p True && p Neutral)) h in
    let u = and_both (p Unknown) (p True && p Neutral) f.1 in
    let t = and_both (p True) (p Neutral) u.1 in
    elim v as (λ k. p k ≡ true) [ False ↦ f.0 | Unknown ↦ u.0 | True ↦ t.0 | Neutral ↦ t.1 ]

-- what holds of each two holds of these
pub at2 : (p : Truth → Truth → Bool) → each2 p ≡ true → (a b : Truth) → p a b ≡ true
at2 p h a b = at (p a) (at (λ a. each (p a)) h a) b

-- a truth is the same as itself
pub same_refl : (v : Truth) → same v v ≡ true
same_refl v = eq-eqb (truth_number v) (truth_number v) refl

-- two that are the same are equal
pub same_is : (v w : Truth) → same v w ≡ true → v ≡ w
same_is v w h = truth_number_injective v w (eqb-true (truth_number v) (truth_number w) h)

-- And is associative
pub and_assoc : (a b c : Truth) → pair And (pair And a b) c ≡ pair And a (pair And b c)
unfolding and_rule any
and_assoc a b c =
    let is : Truth → Truth → Truth → Bool = λ a b c. same (pair And (pair And a b) c) (pair And a (pair And b c)) in
    same_is (pair And (pair And a b) c) (pair And a (pair And b c)) (at2 (is a) (at (λ a. each2 (is a)) refl a) b c)

-- Neutral adds nothing after another
pub and_neutral : (v : Truth) → pair And v Neutral ≡ v
unfolding and_rule any
and_neutral v = same_is (pair And v Neutral) v (at (λ v. same (pair And v Neutral) v) refl v)

-- nor before another
pub neutral_and : (v : Truth) → pair And Neutral v ≡ v
unfolding and_rule any
neutral_and v = same_is (pair And Neutral v) v (at (λ v. same (pair And Neutral v) v) refl v)
