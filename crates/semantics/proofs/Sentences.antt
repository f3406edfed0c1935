-- The rules of presence in words (docs/SEMANTICS.md, 'Presence'), as laws. Assumes nothing.
use Rattle.std.specs.Prelude.{◌≡◌, refl, List, [], ◌∷◌, Bool, true, false, cond, ◌&&◌, ◌||◌, ℕ, ◌+◌, eqb, Result, Ok, Err}
use Rattle.std.proofs.Common.{ap, eqb-true}
use Rattle.std.proofs.lemmas.Bool.{false≢true}
use Rattle.refusal.specs.declared.Refusal.{Refusal}
use Rattle.refusal.specs.Result.{err≢ok}
use Rattle.refusal.specs.declared.Refusal.TheVariants.{ChoiceOverNeutral, FailedAnswer}
use Rattle.citation.specs.declared.Truth.{Truth}
use Rattle.citation.specs.declared.Truth.TheVariants.{False, Unknown, True, Neutral}
use Rattle.citation.specs.Truths.{truth_number}
use Rattle.grammar.specs.Expr.{Or, Xor, Expr, Exprs, join, ◌◂◌, count}
use Rattle.semantics.specs.Rules.{is_false, is_unknown, is_true, is_neutral, any, and_rule, or_rule, two_true, xor_rule}
use Rattle.semantics.specs.Presence.{presence_with, values_with, dropped, mixes, before, presence, values, answered}
use Rattle.semantics.specs.Sentences.{only_neutral, filled, or_of_filled, xor_of_filled}

-- Then and And: a False operand decides, then an Unknown one; Neutral operands alone are Neutral, and anything else is True
pub and_says : (vs : List Truth) → and_rule vs ≡ cond (any is_false vs) False (cond (any is_unknown vs) Unknown (cond (only_neutral vs) Neutral True))
unfolding and_rule any
and_says [] = refl
and_says (v ∷ vs) = by v (any is_false vs) (any is_unknown vs) (any is_true vs) (only_neutral vs) (and_says vs)
  where
    by : (v : Truth) (f u t o : Bool)
        → cond f False (cond u Unknown (cond t True Neutral)) ≡ cond f False (cond u Unknown (cond o Neutral True))
        → cond (is_false v || f) False (cond (is_unknown v || u) Unknown (cond (is_true v || t) True Neutral))
        ≡ cond (is_false v || f) False (cond (is_unknown v || u) Unknown (cond (is_neutral v && o) Neutral True))
    by False f u t o h = refl
    by Unknown f u t o h = refl
    by True f u t o h = refl
    by Neutral f u t o h = h

-- a test that Neutral fails does not see the dropped
any-filled : (p : Truth → Bool) → p Neutral ≡ false → (vs : List Truth) → any p (filled vs) ≡ any p vs
unfolding any
any-filled p n [] = refl
any-filled p n (False ∷ vs) = rw (any-filled p n vs)
any-filled p n (Unknown ∷ vs) = rw (any-filled p n vs)
any-filled p n (True ∷ vs) = rw (any-filled p n vs)
any-filled p n (Neutral ∷ vs) = rw n (any-filled p n vs)

two_filled : (vs : List Truth) → two_true (filled vs) ≡ two_true vs
unfolding two_true
two_filled [] = refl
two_filled (False ∷ vs) = two_filled vs
two_filled (Unknown ∷ vs) = two_filled vs
two_filled (True ∷ vs) = any-filled is_true refl vs
two_filled (Neutral ∷ vs) = two_filled vs

-- Or drops the Neutral values, wherever they stand, and goes by those that are left
pub or_says : (vs : List Truth) → or_rule vs ≡ or_of_filled (filled vs)
unfolding or_rule any
or_says [] = refl
or_says (False ∷ vs) = rw (any-filled is_true refl vs, any-filled is_unknown refl vs)
or_says (Unknown ∷ vs) = rw (any-filled is_true refl vs)
or_says (True ∷ vs) = refl
or_says (Neutral ∷ vs) = or_says vs

-- and so does Xor
pub xor_says : (vs : List Truth) → xor_rule vs ≡ xor_of_filled (filled vs)
unfolding xor_rule two_true any
xor_says [] = refl
xor_says (False ∷ vs) = rw (two_filled vs, any-filled is_unknown refl vs, any-filled is_true refl vs)
xor_says (Unknown ∷ vs) = rw (two_filled vs)
xor_says (True ∷ vs) = rw (any-filled is_true refl vs, any-filled is_unknown refl vs)
xor_says (Neutral ∷ vs) = xor_says vs

-- an answer byte stands for the truth with its number
pub answered-truth : (t : Truth) → answered (truth_number t) ≡ Ok t
unfolding answered
answered-truth False = refl
answered-truth Unknown = refl
answered-truth True = refl
answered-truth Neutral = refl

told : {a b : Truth} → ◌≡◌ {A = Result Truth Refusal} (Ok a) (Ok b) → is_unknown a ≡ is_unknown b
told {a} {b} h = let same : a ≡ b = cc in ap is_unknown same

-- only the byte 1 stands for Unknown
pub answered_unknown : (b : ℕ) → answered b ≡ Ok Unknown → b ≡ truth_number Unknown
unfolding answered
answered_unknown b h = eqb-true b 1 (by (eqb b 0) (eqb b 1) (eqb b 2) (eqb b 3) h)
  where
    by : (x y z w : Bool) → cond x (Ok False) (cond y (Ok Unknown) (cond z (Ok True) (cond w (Ok Neutral) (Err FailedAnswer)))) ≡ Ok Unknown → y ≡ true
    by true y z w h = absurd (false≢true (told h))
    by false true z w h = refl
    by false false true w h = absurd (false≢true (told h))
    by false false false true h = absurd (false≢true (told h))
    by false false false false h = absurd (err≢ok h)

module _ (oracle : ℕ → Result Truth Refusal) where
  -- a choice that mixes is turned back with 7, whatever the answers: Or
  pub or_mixes : (n : ℕ) (es : Exprs) → mixes es ≡ true → presence oracle n (join Or es) ≡ Err ChoiceOverNeutral
  unfolding presence_with
  or_mixes n es h = rw h

  -- the same of Xor
  pub xor_mixes : (n : ℕ) (es : Exprs) → mixes es ≡ true → presence oracle n (join Xor es) ≡ Err ChoiceOverNeutral
  unfolding presence_with
  xor_mixes n es h = rw h

  -- a dropped operand is passed over
  pub values-dropped : (n : ℕ) (e : Expr) (es : Exprs) → dropped e ≡ true → values oracle true n (e ◂ es) ≡ values oracle true (n + count e) es
  unfolding values_with
  values-dropped n e es h = rw h

  -- a kept operand is evaluated before those after it
  pub values_kept : (choosing : Bool) (n : ℕ) (e : Expr) (es : Exprs) → (choosing && dropped e) ≡ false
      → values oracle choosing n (e ◂ es) ≡ before (presence oracle n e) (values oracle choosing (n + count e) es)
  unfolding values_with
  values_kept choosing n e es h = rw h

  -- so of several refusals the leftmost is returned
  pub values_refused : (choosing : Bool) (n : ℕ) (why : Refusal) (e : Expr) (es : Exprs) → (choosing && dropped e) ≡ false
      → presence oracle n e ≡ Err why → values oracle choosing n (e ◂ es) ≡ Err why
  unfolding before
  values_refused choosing n why e es h r = rw (values_kept choosing n e es h, r)
