-- Which citations presence evaluates: all but those in dropped operands. The others' answers change nothing. Assumes nothing.
use Rattle.std.specs.Prelude.{◌≡◌, refl, List, [], ◌∷◌, Bool, true, false, not, ◌&&◌, ℕ, zero, suc, ◌+◌, ◌≤◌, eqb, leb, length, get_or, set, Result, Ok}
use Rattle.std.proofs.Common.{sym, ap, ◌∙◌, true≢false, length-set, eq-eqb, le-leb}
use Rattle.std.proofs.Math.Bool.{or-true}
use Rattle.laws.specs.Tests.{and_both, and_intro}
use Rattle.refusal.specs.declared.Refusal.{Refusal}
use Rattle.refusal.specs.Result.{then}
use Rattle.text.specs.Bytes.{all}
use Rattle.citation.specs.declared.Truth.{Truth}
use Rattle.grammar.specs.Expr.{And, Or, Xor, Expr, Exprs, cite, Then, join, none, more, ◌◂◌, count}
use Rattle.grammar.specs.Bytes.{tree_of}
use Rattle.semantics.specs.Presence.{presence_with, dropped, valued, presence, values, failed, answered, oracle_of, answers_fit}
use Rattle.semantics.specs.Answers.{eval_answer}
use Rattle.semantics.specs.Evaluated.{evaluates, evaluates_of}

-- what is evaluated in a kept operand
pub first_evaluated : (k : ℕ) (choosing : Bool) (n : ℕ) (e : Expr) (es : Exprs)
    → (choosing && dropped e) ≡ false → evaluates k n e ≡ true → evaluates_of k choosing n (e ◂ es) ≡ true
unfolding evaluates_of
first_evaluated k choosing n e es d h = rw (d, h)

-- what is evaluated in the other operands
pub rest_evaluated : (k : ℕ) (choosing : Bool) (n : ℕ) (e : Expr) (es : Exprs)
    → evaluates_of k choosing (n + count e) es ≡ true → evaluates_of k choosing n (e ◂ es) ≡ true
unfolding evaluates_of
rest_evaluated k choosing n e es h = rw h (or-true (not (choosing && dropped e) && evaluates k n e))

module _ (a b : ℕ → Result Truth Refusal) where
  -- the oracles agree on what is evaluated
  abbrev Agree : (ℕ → Bool) → Type 0
  Agree p = (k : ℕ) → p k ≡ true → a k ≡ b k

  value_agrees : (d : Bool) (v v' : Result Truth Refusal) (vs vs' : Result (List Truth) Refusal) → (d ≡ false → v ≡ v') → vs ≡ vs' → valued d v vs ≡ valued d v' vs'
  value_agrees true v v' vs vs' f g = g
  value_agrees false v v' vs vs' f g = rw (f refl, g)

  mutual
    unfolding presence_with evaluates

    -- presence looks at the evaluated citations only
    pub presence_agrees : (n : ℕ) (e : Expr) → ((k : ℕ) → evaluates k n e ≡ true → a k ≡ b k) → presence a n e ≡ presence b n e
    presence_agrees n (cite t) h = h n (eq-eqb n n refl)
    presence_agrees n (Then es) h = rw (values_agree false n es h)
    presence_agrees n (join And es) h = rw (values_agree false n es h)
    presence_agrees n (join Or es) h = rw (values_agree true n es h)
    presence_agrees n (join Xor es) h = rw (values_agree true n es h)

    values_agree : (choosing : Bool) (n : ℕ) (es : Exprs) → Agree (λ k. evaluates_of k choosing n es) → values a choosing n es ≡ values b choosing n es
    values_agree choosing n none h = refl
    values_agree choosing n (more e es) h =
        value_agrees (choosing && dropped e) (presence a n e) (presence b n e) _ _
        (λ d. presence_agrees n e (λ k q. h k (first_evaluated k choosing n e es d q)))
        (values_agree choosing (n + count e) es (λ k q. h k (rest_evaluated k choosing n e es q)))

get_d_set : (l : List ℕ) (k i x d : ℕ) → (i ≡ k → ⊥) → get_or (set l k x) i d ≡ get_or l i d
get_d_set [] k i x d h = refl
get_d_set (y ∷ l) zero zero x d h = absurd (h refl)
get_d_set (y ∷ l) zero (suc i) x d h = refl
get_d_set (y ∷ l) (suc k) zero x d h = refl
get_d_set (y ∷ l) (suc k) (suc i) x d h = get_d_set l k i x d (λ q. h (ap suc q))

all_set : (p : ℕ → Bool) (l : List ℕ) (k x : ℕ) → p x ≡ true → all p l ≡ true → all p (set l k x) ≡ true
all_set p [] k x h t = refl
all_set p (y ∷ l) zero x h t = and_intro (p x) (all p l) h (and_both (p y) (all p l) t).1
all_set p (y ∷ l) (suc k) x h t = let s = and_both (p y) (all p l) t in and_intro (p y) (all p (set l k x)) s.0 (all_set p l k x h s.1)

fit_set : (e : Expr) (answers : List ℕ) (k x : ℕ) → x ≤ failed → answers_fit e answers ≡ true → answers_fit e (set answers k x) ≡ true
unfolding answers_fit
fit_set e answers k x h t =
    let s = and_both (eqb (length answers) (count e)) (all (λ b. leb b failed) answers) t in
    and_intro (eqb (length (set answers k x)) (count e)) (all (λ b. leb b failed) (set answers k x))
    (rw (length-set answers k x) s.0) (all_set (λ b. leb b failed) answers k x (le-leb x failed h) s.1)

-- the answer to a dropped citation does not matter, as long as it is one of the five
pub dropped_free : (tree answers : List ℕ) (e : Expr) (k x : ℕ) → tree_of tree ≡ Ok e → answers_fit e answers ≡ true
    → evaluates k 0 e ≡ false → x ≤ failed → eval_answer tree (set answers k x) ≡ eval_answer tree answers
unfolding eval_answer then
dropped_free tree answers e k x t f d h =
    rw (t, f, fit_set e answers k x h f)
    (presence_agrees (oracle_of (set answers k x)) (oracle_of answers) 0 e (λ i q. ap answered (get_d_set answers k i x failed (λ p. true≢false (sym q ∙ ap (λ j. evaluates j 0 e) p ∙ d)))))
