-- The theorems on the list of violations, for every tree, read or not, and every value. Assumes nothing.
use Rattle.std.specs.Prelude.{◌≡◌, refl, List, [], ◌∷◌, ◌++◌, Bool, true, false, cond, not, ◌||◌, ℕ, ◌+◌, ◌≤◌, ◌<◌, eqb, ltb, length, get_or, Ok, ◌↔◌}
use Rattle.std.proofs.Common.{sym, ap, ◌∙◌, ⊎_elim, arith, eqb-true, eq-eqb, ltb-true, ltb-false, length-append, zero-add}
use Rattle.std.proofs.Math.Bool.{or-true}
use Rattle.std.proofs.lemmas.Bool.{false≢true, not-true}
use mathlib.Core.List.Memᴰ
use mathlib.Core.List.Sublistᴰ
use mathlib.Core.List.{Memᴰ, Sublistᴰ}
use Rattle.laws.specs.Tests.{cond_both}
use Rattle.text.specs.Quoted.{ascii}
use Rattle.text.specs.Digits.{number_up_to}
use Rattle.citation.specs.Kinds.{kind_of, kind_of_number}
use Rattle.citation.specs.declared.Truth.{Truth}
use Rattle.citation.specs.declared.Truth.TheVariants.{False, True}
use Rattle.formats.specs.declared.FormatVerdict.{FormatVerdict}
use Rattle.formats.specs.declared.FormatVerdict.TheVariants.{Holds, Violated, Unregistered}
use Rattle.decimal.specs.Decimal.{integer_of, fraction_of, against}
use Rattle.formats.specs.Rules.{judged}
use Rattle.formats.specs.Table.{rule_of, verdict}
use Rattle.formats.specs.Answers.{verdict_truth}
use Rattle.grammar.specs.Expr.{Op, And, Or, Expr, Exprs, cite, Then, join, none, more, ◌◂◌, citations, citations_of, count}
use Rattle.grammar.specs.Outcome.{answer_of}
use Rattle.semantics.specs.Rules.{is_false, any, and_rule, or_rule}
use Rattle.semantics.specs.Truth.{is_judged, Counts, format_rule, truth_with, truths_with, cited_truth, counts_on, truth}
use Rattle.semantics.specs.Violations.{fails, violations_with, violations_of, violations}
use Rattle.semantics.specs.Pairs.{same}
use Rattle.semantics.proofs.Pairs.{at, at2, same_is, same_refl}
use Rattle.semantics.specs.Kept.{Kept, EachCited}
use Rattle.semantics.proofs.Kept.{kept_none, kept_more, truth_kept}
use Rattle.semantics.proofs.Flat.{not_false_none}
use Rattle.semantics.specs.Answers.{verdicts_answer}
use Rattle.theorems.specs.Remarks.{verdicts_are}
use Rattle.theorems.specs.Violations.{cited_false, cited_false_of, violations_before, with_held, rises, Raised, IsViolated, StandsIn, FalseAround, FalseAroundIn, ListPromised}

-- The list that stood before.

only_part : (b : Bool) (ns ms : List ℕ) → Sublistᴰ ns ms → Sublistᴰ (cond b ns []) ms
only_part b ns ms h = cond_both (λ l. Sublistᴰ l ms) b ns [] (λ _. h) (λ _. Sublistᴰ.nil-sublist ms)

module _ (c : Counts) where
  mutual
    unfolding violations_with cited_false truth_with

    part : (n : ℕ) (e : Expr) → Sublistᴰ (violations_with c n e) (cited_false c n e)
    part n (cite t) = Sublistᴰ.refl (violations_with c n (cite t))
    part n (Then es) = only_part (fails c n (Then es)) (violations_of c n es) (cited_false_of c n es) (part_of n es)
    part n (join o es) = only_part (fails c n (join o es)) (violations_of c n es) (cited_false_of c n es) (part_of n es)

    part_of : (n : ℕ) (es : Exprs) → Sublistᴰ (violations_of c n es) (cited_false_of c n es)
    part_of n none = Sublistᴰ.slnil
    part_of n (more e es) = Sublistᴰ.append (part n e) (part_of (n + count e) es)

-- the list is a part of the one before, in the same order
pub violations_part : (value : List ℕ) (e : Expr) → Sublistᴰ (violations value e) (violations_before value e)
violations_part value e = by (fails (counts_on value) 0 e) refl
  where
    by : (x : Bool) → fails (counts_on value) 0 e ≡ x → Sublistᴰ (violations value e) (cond x (cited_false (counts_on value) 0 e) [])
    by true h = part (counts_on value) 0 e
    by false h = rw (not_false_none (counts_on value) 0 e h) Sublistᴰ.slnil

-- Counting otherwise.

rises_kept : Kept rises
unfolding and_rule or_rule any
rises_kept = record { none = refl; and = refl; or = refl }

-- the second is not False
abbrev not_false : Truth → Truth → Bool
not_false v w = not (is_false w)

not_false_kept : Kept not_false
unfolding and_rule or_rule any
not_false_kept = record { none = refl; and = refl; or = refl }

-- a truth as high as one that is not False, or higher, is not False
risen : (v w : Truth) → rises v w ≡ true → is_false v ≡ false → not_false v w ≡ true
risen v w h g = rw (h, g) at (at2 (λ v w. not (rises v w) || (is_false v || not_false v w)) refl v w)

held_rises : (b : Bool) (v : Truth) → rises v (cond b True v) ≡ true
held_rises true v = at (λ v. rises v True) refl v
held_rises false v = rw (same_refl v)

member : (k : ℕ) (ns : List ℕ) → Memᴰ k ns → any (eqb k) ns ≡ true
unfolding any
member k [] m = absurd (Memᴰ.not-nil m)
member k (n ∷ ns) (Memᴰ.head e) = rw (eq-eqb k n e)
member k (n ∷ ns) (Memᴰ.tail m) = rw (member k ns m) (or-true (eqb k n))

is_member : (k : ℕ) (ns : List ℕ) → any (eqb k) ns ≡ true → Memᴰ k ns
unfolding any
is_member k [] h = absurd (false≢true h)
is_member k (n ∷ ns) h = by (eqb k n) refl h (is_member k ns)
  where
    by : (x : Bool) → eqb k n ≡ x → (x || any (eqb k) ns) ≡ true → (any (eqb k) ns ≡ true → Memᴰ k ns) → Memᴰ k (n ∷ ns)
    by true e h m = Memᴰ.head (eqb-true k n e)
    by false e h m = Memᴰ.tail (m h)

-- what a citation counts as with the numbers held is at most w, if w is True at these numbers and at least v at the others
held_below : (ns : List ℕ) (n : ℕ) (v w : Truth) → (Memᴰ n ns → w ≡ True) → rises v w ≡ true → rises (cond (any (eqb n) ns) True v) w ≡ true
held_below ns n v w f h = by (any (eqb n) ns) refl
  where
    by : (x : Bool) → any (eqb n) ns ≡ x → rises (cond x True v) w ≡ true
    by true q = rw (f (is_member n ns q))
    by false q = h

module _ (c : Counts) (ns : List ℕ) where
  -- these numbers are among those that hold
  abbrev Among : List ℕ → Type 0
  Among ms = (k : ℕ) → Memᴰ k ms → Memᴰ k ns

  -- the expression is not False when they hold
  abbrev NotFalse : ℕ → Expr → Type 0
  NotFalse n e = not_false (truth_with c n e) (truth_with (with_held ns c) n e) ≡ true

  if_false : (n : ℕ) (e : Expr) → (fails c n e ≡ true → NotFalse n e) → NotFalse n e
  if_false n e f = by (fails c n e) refl
    where
      by : (x : Bool) → fails c n e ≡ x → NotFalse n e
      by true h = f h
      by false h =
          risen (truth_with c n e) (truth_with (with_held ns c) n e)
          (truth_kept rises c (with_held ns c) rises_kept n e (λ i l. held_rises (any (eqb (n + i)) ns) (c (n + i) (get_or (citations e) i [])))) h

  mutual
    unfolding violations_with truth_with

    raises : (n : ℕ) (e : Expr) → Among (violations_with c n e) → NotFalse n e
    raises n (cite t) h = if_false n (cite t) (λ f. rw (member n ns ((rw f at h) n (Memᴰ.head refl))))
    raises n (Then es) h = if_false n (Then es) (λ f. raises_of And n es (rw f at h))
    raises n (join o es) h = if_false n (join o es) (λ f. raises_of o n es (rw f at h))

    raises_of : (o : Op) (n : ℕ) (es : Exprs) → Among (violations_of c n es) → not_false (format_rule o (truths_with c n es)) (format_rule o (truths_with (with_held ns c) n es)) ≡ true
    raises_of o n none h = kept_none not_false not_false_kept o
    raises_of o n (more e es) h =
        kept_more not_false not_false_kept o (truth_with c n e) (truth_with (with_held ns c) n e) (truths_with c (n + count e) es) (truths_with (with_held ns c) (n + count e) es)
        (raises n e (λ k m. h k (Memᴰ.append_left (violations_of c (n + count e) es) m)))
        (raises_of o (n + count e) es (λ k m. h k (Memᴰ.append_right (violations_with c n e) m)))

-- with every listed citation counted as True, and every other as it is, the expression is not False
pub held_not_false : (c : Counts) (e : Expr) → fails (with_held (violations_with c 0 e) c) 0 e ≡ false
held_not_false c e = let ns = violations_with c 0 e in not-true (fails (with_held ns c) 0 e) (raises c ns 0 e (λ k m. m))

-- an expression that is False has a citation in its list
pub false_lists : (c : Counts) (e : Expr) → fails c 0 e ≡ true → 0 < length (violations_with c 0 e)
unfolding any
false_lists c e h = by (violations_with c 0 e) (held_not_false c e)
  where
    by : (ns : List ℕ) → fails (with_held ns c) 0 e ≡ false → 0 < length ns
    by [] f = absurd (false≢true (sym f ∙ h))
    by (n ∷ ns) f = omega arith

-- where every listed citation counts as True, and every other as it did or higher, the expression is not False
pub raised_not_false : (c d : Counts) (e : Expr) → Raised c d e → fails d 0 e ≡ false
raised_not_false c d e m =
    let ns = violations_with c 0 e in
    let t : ℕ → List ℕ = λ i. get_or (citations e) i [] in
    let cited : EachCited rises (with_held ns c) d 0 (citations e) = λ i l. rw zero-add (held_below ns i (c i (t i)) (d i (t i)) (m.listed i) (rw zero-add at (m.all i l))) in
    not-true (fails d 0 e) (risen (truth_with (with_held ns c) 0 e) (truth_with d 0 e) (truth_kept rises (with_held ns c) d rises_kept 0 e cited) (held_not_false c e))

-- that can be asked of every expression: count the listed ones as True and leave the others
pub held_raised : (c : Counts) (e : Expr) → Raised c (with_held (violations_with c 0 e) c) e
held_raised c e =
    let ns = violations_with c 0 e in
    record { listed = λ n m. rw (member n ns m); all = λ i l. held_rises (any (eqb (0 + i)) ns) (c (0 + i) (get_or (citations e) i [])) }

-- so a format truth is not False on a value that every citation listed for another value counts as True, and every other as there, or higher
pub raised_value : (value other : List ℕ) (e : Expr) → Raised (counts_on value) (counts_on other) e → is_false (truth other e) ≡ false
raised_value value other = raised_not_false (counts_on value) (counts_on other)

-- Which citations are listed.

-- a citation counts as False exactly if the value violates its text
cited_violated : (value t : List ℕ) → (is_false (cited_truth value t) ≡ true) ↔ IsViolated value t
unfolding cited_truth
cited_violated value t = (by (is_judged (kind_of t)) (verdict t value), λ v. rw (v.0, v.1))
  where
    by : (j : Bool) (v : FormatVerdict) → is_false (cond j (verdict_truth v) True) ≡ true → (j ≡ true) × (v ≡ Violated)
    by true Violated h = (refl, refl)
    by true Unregistered h = absurd (false≢true h)
    by true Holds h = absurd (false≢true h)
    by false v h = absurd (false≢true h)

module _ (value : List ℕ) (k : ℕ) where
  -- the citation stands in one of the operands
  abbrev StandsAmong : ℕ → Exprs → Type 0
  StandsAmong n es = (n ≤ k) × (k < n + length (citations_of es))

  mutual
    unfolding citations

    outside : (n : ℕ) (e : Expr) → (StandsIn k n e → ⊥) → FalseAround value k n e
    outside n (cite t) h = λ s. absurd (h s)
    outside n (Then es) h = (λ s. absurd (h s), outside_of n es h)
    outside n (join o es) h = (λ s. absurd (h s), outside_of n es h)

    outside_of : (n : ℕ) (es : Exprs) → (StandsAmong n es → ⊥) → FalseAroundIn value k n es
    outside_of n none h = tt
    outside_of n (more e es) h =
        let l = length-append (citations e) (citations_of es) in
        (outside n e (λ s. h (omega arith)), outside_of (n + count e) es (λ s. h (omega arith)))

  -- a list that stands only after a test: so what stands in it has passed the test
  tested : {S B : Type 0} (x : Bool) (ns : List ℕ) → Memᴰ k ns ↔ (S × B) → Memᴰ k (cond x ns []) ↔ (S × ((S → x ≡ true) × B))
  tested true ns h = (λ m. let r = h.0 m in (r.0, (λ _. refl, r.1)), λ s. h.1 (s.0, s.1.1))
  tested false ns h = (λ m. absurd (Memᴰ.not-nil m), λ s. absurd (false≢true (s.1.0 s.0)))

  -- the listed numbers
  abbrev numbers : ℕ → Expr → List ℕ
  numbers n e = violations_with (counts_on value) n e

  abbrev numbers_of : ℕ → Exprs → List ℕ
  numbers_of n es = violations_of (counts_on value) n es

  mutual
    unfolding violations_with truth_with citations

    exact : (n : ℕ) (e : Expr) → Memᴰ k (numbers n e) ↔ (StandsIn k n e × FalseAround value k n e)
    exact n (cite t) =
        let is = cited_violated value t in
        let here : Memᴰ k (n ∷ []) → StandsIn k n (cite t) × Unit {0} = λ m. let same = Memᴰ.eq_of_singleton m in (omega arith, tt) in
        let back : StandsIn k n (cite t) × Unit {0} → Memᴰ k (n ∷ []) = λ s. let same : k ≡ n = omega (arith, s.0) in Memᴰ.head same in
        let r = tested (is_false (cited_truth value t)) (n ∷ []) (here, back) in
        (λ m. let s = r.0 m in (s.0, λ a. is.0 (s.1.0 a)), λ s. r.1 (s.0, (λ a. is.1 (s.1 a), tt)))
    exact n (Then es) = tested (fails (counts_on value) n (Then es)) (numbers_of n es) (exact_of n es)
    exact n (join o es) = tested (fails (counts_on value) n (join o es)) (numbers_of n es) (exact_of n es)

    exact_of : (n : ℕ) (es : Exprs) → Memᴰ k (numbers_of n es) ↔ (StandsAmong n es × FalseAroundIn value k n es)
    exact_of n none = (λ m. absurd (Memᴰ.not-nil m), λ s. absurd (omega (arith, s.0)))
    exact_of n (more e es) =
        let f = exact n e in
        let r = exact_of (n + count e) es in
        let l = length-append (citations e) (citations_of es) in (
          λ m.
              ⊎_elim
              (λ i. let s = f.0 i in (omega (arith, l, s.0), (s.1, outside_of (n + count e) es (λ o. omega (arith, s.0)))))
              (λ i. let s = r.0 i in (omega (arith, l, s.0), (outside n e (λ o. omega (arith, s.0)), s.1)))
              (Memᴰ.append_cases (numbers n e) m),
          λ s. by (ltb k (n + count e)) refl s.0 (λ i. f.1 (i, s.1.0)) (λ i. r.1 (i, s.1.1)),
        )
      where
        by : (x : Bool) → ltb k (n + count e) ≡ x → StandsAmong n (e ◂ es)
            → (StandsIn k n e → Memᴰ k (numbers n e)) → (StandsAmong (n + count e) es → Memᴰ k (numbers_of (n + count e) es))
            → Memᴰ k (numbers n e ++ numbers_of (n + count e) es)
        by true h s f r = Memᴰ.append_left (numbers_of (n + count e) es) (f (omega (arith, ltb-true k (n + count e) h)))
        by false h s f r = Memᴰ.append_right (numbers n e) (r (omega (arith, ltb-false k (n + count e) h, length-append (citations e) (citations_of es))))

-- a number is listed exactly if a citation has it, the value violates this citation's text, and every expression in which it stands is False
pub exactly : (value : List ℕ) (e : Expr) (k : ℕ) → Memᴰ k (violations value e) ↔ (StandsIn k 0 e × FalseAround value k 0 e)
exactly value e k = exact value k 0 e

-- all that is promised
pub violations_promised : (value : List ℕ) (e : Expr) → ListPromised value e
violations_promised value e = record {
  part = violations_part value e;
  some = false_lists (counts_on value) e;
  none = not_false_none (counts_on value) 0 e;
  held = held_not_false (counts_on value) e;
  raised = λ d. raised_not_false (counts_on value) d e;
  exactly = exactly value e;
}

false_is : (v : Truth) → is_false v ≡ true → v ≡ False
false_is v h = same_is v False (rw h at (at (λ v. not (is_false v) || same v False) refl v))

-- so `verdicts` counts a violation exactly if the format truth that it answers is False
pub listed_exactly_if_false : (tree value : List ℕ) (n : ℕ) (v : Truth) (k : ℕ) → answer_of (verdicts_answer tree value) n ≡ Ok (v, k) → (0 < k) ↔ (v ≡ False)
listed_exactly_if_false tree value n v k h =
    let t = verdicts_are tree value n v k h in
    let p = violations_promised value t.expr in (
      λ l. by t.expr (is_false v) refl t.is_truth (omega (arith, l, t.is_count)),
      λ f. omega (arith, t.is_count, p.some (ap is_false (t.is_truth ∙ f))),
    )
  where
    by : (e : Expr) (x : Bool) → is_false v ≡ x → truth value e ≡ v → 0 < length (violations value e) → v ≡ False
    by e true q h l = false_is v q
    by e false q h l = absurd (omega (arith, l, ap length ((violations_promised value e).none (ap is_false h ∙ q))))

-- `([902] ∨ [903]) [1] ∧ [914]`
abbrev sample : Expr
sample = join And (Then (join Or (cite (ascii "902") ◂ cite (ascii "903") ◂ none) ◂ cite (ascii "1") ◂ none) ◂ cite (ascii "914") ◂ none)

-- on "0" [903] is False in a choice that is True: the list before had it, the list does not
pub sample_listed : (violations_before (ascii "0") sample ≡ 1 ∷ 3 ∷ []) × (violations (ascii "0") sample ≡ 3 ∷ [])
unfolding violations_with cited_false truth_with cited_truth and_rule or_rule any citations kind_of kind_of_number number_up_to verdict rule_of judged against integer_of fraction_of
sample_listed = (refl, refl)
