-- What moving the first Format number from 900 to 901 changed, for every tree, read or not. Presence, its refusals, the package rows and the
-- violations are the same; a format truth is the same, or was Unknown and is True. 'Before' is the range from 900, all else being as it is now. Assumes nothing.
use Rattle.std.specs.Prelude.{◌≡◌, List, [], ◌∷◌, ◌++◌, Bool, false, cond, not, ◌&&◌, ◌||◌, ◌⊎◌, ℕ, suc, ◌+◌, eqb, leb, length, get_or, Result, Ok, Err, Option, Some, None}
use Rattle.std.proofs.Math.Path.{refl, ap, ap₂, fun_ext}
use Rattle.std.proofs.Common.{sym, ◌∙◌, inr, arith, eqb-true, leb-true, leb-false, le-leb}
use Rattle.std.proofs.Math.Bool.{true}
use Rattle.std.proofs.lemmas.Bool.{false≢true, eqb-false, lt-leb}
use Rattle.std.proofs.Math.Logic.{inl}
use Rattle.laws.specs.Tests.{and_both}
use Rattle.refusal.specs.Result.{unless, then, map_ok}
use Rattle.refusal.specs.declared.Refusal.{Refusal}
use Rattle.refusal.specs.declared.Refusal.TheVariants.{TooLong, NotUtf8, WrongAnswers}
use Rattle.text.specs.Quoted.{ascii}
use Rattle.text.specs.Bytes.{begins, has, same}
use Rattle.text.specs.Digits.{number_up_to}
use Rattle.text.proofs.Laws.{same_equal}
use Rattle.utf8.specs.Utf8.{within, is_utf8}
use Rattle.utf8.specs.Limits.{value_limit, admitted}
use Rattle.citation.specs.declared.ConditionKind.{ConditionKind}
use Rattle.citation.specs.declared.ConditionKind.TheVariants.{Voraussetzung, Hinweis, Format, Wiederholbarkeit, Zeitpunkt, Paket, Other}
use Rattle.citation.specs.Kinds.{largest_number, kind_of, kind_of_number, kind_of_found}
use Rattle.citation.proofs.Digits.{number_kind}
use Rattle.citation.specs.Pakete.{paket_of}
use Rattle.citation.specs.declared.Truth.{Truth}
use Rattle.citation.specs.declared.Truth.TheVariants.{Unknown, True}
use Rattle.formats.specs.declared.FormatVerdict.TheVariants.{Unregistered}
use Rattle.formats.specs.Table.{Rows, rules, rule_of, verdict}
use Rattle.formats.specs.Answers.{verdict_truth}
use Rattle.grammar.specs.Expr.{Expr, Exprs, cite, citations}
use Rattle.grammar.specs.Bytes.{tree_of}
use Rattle.grammar.specs.Outcome.{Outcome}
use Rattle.semantics.specs.Rules.{is_false, and_rule, or_rule, any}
use Rattle.semantics.specs.Presence.{is_hinweis, is_gate, mixes_with, presence_with, mixes, presence, oracle_of, answers_fit}
use Rattle.semantics.specs.Truth.{is_judged, Counts, truth_with, cited_truth, counts_on, truth}
use Rattle.semantics.specs.Violations.{violations_with, violations}
use Rattle.semantics.specs.Packages.{is_paket, read_row, rows_of, pakete}
use Rattle.semantics.specs.Pairs as pairs
use Rattle.semantics.proofs.Pairs.{same_is, same_refl}
use Rattle.semantics.specs.Kept.{Kept}
use Rattle.semantics.proofs.Kept.{truth_kept, violations_kept}
use Rattle.semantics.proofs.Flat.{not_false_none}
use Rattle.semantics.specs.Answers.{with_numbers, verdicts_outcome, rowed, pakete_answer, eval_answer, verdicts_answer, eval_and_truth_answer}

-- The kinds, if Format begins at a given number.

module _ (first : ℕ) where
  -- the kind by the number's range
  unfoldable pub kind_of_number_from : ℕ → ConditionKind
  kind_of_number_from n =
      cond (within 1 499 n) Voraussetzung
      (cond (within 500 899 n) Hinweis
      (cond (within first 999 n) Format
      (cond (within 2000 2499 n) Wiederholbarkeit
      Other)))

  -- the kind of what stands as a number, or of no number
  abbrev pub kind_of_found_from : Option ℕ → ConditionKind
  kind_of_found_from (Some n) = kind_of_number_from n
  kind_of_found_from None = Other

  -- the kind that a text names
  unfoldable pub kind_from : List ℕ → ConditionKind
  kind_from t = cond (begins (ascii "UB") t) Zeitpunkt (cond (has (ascii "P") t) Paket (kind_of_found_from (number_up_to largest_number t)))

-- from 901 on they are the kinds that are used
pub kind_now : (t : List ℕ) → kind_from 901 t ≡ kind_of t
unfolding kind_from kind_of_number_from kind_of kind_of_number
kind_now t = rw (by (number_up_to largest_number t))
  where
    by : (f : Option ℕ) → kind_of_found_from 901 f ≡ kind_of_found f
    by (Some n) = refl
    by None = refl

-- a text whose number is 900
abbrev pub Is900 : List ℕ → Type 0
Is900 t = number_up_to largest_number t ≡ Some 900

-- however it is spelt, it is Other
pub other_900 : (t : List ℕ) → Is900 t → kind_of t ≡ Other
unfolding kind_of_number
other_900 t h = number_kind t 900 h

-- the kinds of a text before and now: the same, or Format and Other of a text whose number is 900
abbrev pub Moves : List ℕ → ConditionKind → ConditionKind → Type 0
Moves t before now = (before ≡ now) ⊎ (Is900 t × (before ≡ Format) × (now ≡ Other))

number_moves : (n : ℕ) → (kind_of_number_from 900 n ≡ kind_of_number_from 901 n) ⊎ (n ≡ 900)
unfolding kind_of_number_from
number_moves n = go (eqb n 900) refl
  where
    bound : (x : Bool) → (n ≡ 900 → ⊥) → leb 900 n ≡ x → leb 901 n ≡ x
    bound true h p = le-leb 901 n (omega (arith, leb-true 900 n p))
    bound false h p = lt-leb 901 n (omega (arith, leb-false 900 n p))

    go : (x : Bool) → eqb n 900 ≡ x → (kind_of_number_from 900 n ≡ kind_of_number_from 901 n) ⊎ (n ≡ 900)
    go true h = inr (eqb-true n 900 h)
    go false h = inl (rw (bound (leb 900 n) (eqb-false n 900 h) refl))

-- no other text moves
pub kind_moves : (t : List ℕ) → Moves t (kind_from 900 t) (kind_of t)
unfolding kind_from kind_of_number_from
kind_moves t = rw (← kind_now t) (go (begins (ascii "UB") t) (has (ascii "P") t) (number_up_to largest_number t) refl)
  where
    go : (u p : Bool) (f : Option ℕ) → number_up_to largest_number t ≡ f
        → Moves t (cond u Zeitpunkt (cond p Paket (kind_of_found_from 900 f))) (cond u Zeitpunkt (cond p Paket (kind_of_found_from 901 f)))
    go true p f h = inl refl
    go false true f h = inl refl
    go false false None h = inl refl
    go false false (Some n) h = by (number_moves n)
      where
        by : (kind_of_number_from 900 n ≡ kind_of_number_from 901 n) ⊎ (n ≡ 900) → Moves t (kind_of_number_from 900 n) (kind_of_number_from 901 n)
        by (inl same) = inl same
        by (inr is) = inr (h ∙ ap Some is, ap (kind_of_number_from 900) is, ap (kind_of_number_from 901) is)

-- a test of kinds that does not tell Format from Other sees no change
pub unseen : (p : ConditionKind → Bool) → p Format ≡ p Other → (t : List ℕ) → p (kind_from 900 t) ≡ p (kind_of t)
unseen p h t = by (kind_moves t)
  where
    by : Moves t (kind_from 900 t) (kind_of t) → p (kind_from 900 t) ≡ p (kind_of t)
    by (inl is) = ap p is
    by (inr m) = ap p m.1 ∙ h ∙ ap p (sym m.2)

-- the number found is 900
abbrev is900 : Option ℕ → Bool
is900 (Some n) = eqb n 900
is900 None = false

-- the texts of these rows have another number
abbrev others : Rows → Bool
others [] = true
others (row ∷ rows) = not (is900 (number_up_to largest_number row.0)) && others rows

no_rule : (rows : Rows) → others rows ≡ true → (t : List ℕ) → Is900 t → rule_of rows t ≡ None
unfolding rule_of
no_rule [] h t q = refl
no_rule (row ∷ rows) h t q =
    let s = and_both (not (is900 (number_up_to largest_number row.0))) (others rows) h in
    go (same row.0 t) refl s.0 (no_rule rows s.1 t q)
  where
    go : (x : Bool) → same row.0 t ≡ x → not (is900 (number_up_to largest_number row.0)) ≡ true → rule_of rows t ≡ None
        → cond x (Some row.1) (rule_of rows t) ≡ None
    go true e n r = absurd (false≢true (rw (same_equal row.0 t e, q) at n))
    go false e n r = r

-- a text whose number is 900 is never registered
pub unregistered_900 : (t value : List ℕ) → Is900 t → verdict t value ≡ Unregistered
unfolding verdict number_up_to
unregistered_900 t value h = rw (no_rule rules refl t h)

-- Expressions.

module _ (first : ℕ) where
  -- whether a choice mixes
  abbrev pub mixes_from : Exprs → Bool
  mixes_from = mixes_with (λ t. is_hinweis (kind_from first t)) (λ t. is_gate (kind_from first t))

  -- presence
  abbrev pub presence_from : (oracle : ℕ → Result Truth Refusal) → ℕ → Expr → Result Truth Refusal
  presence_from = presence_with (λ t. is_hinweis (kind_from first t)) (λ t. is_gate (kind_from first t))

  -- the package rows of texts, numbered from n on
  unfoldable pub rows_from : ℕ → List (List ℕ) → List (List ℕ)
  rows_from n [] = []
  rows_from n (t ∷ ts) = cond (is_paket (kind_from first t)) (read_row n (paket_of t)) [] ++ rows_from (suc n) ts

  -- what each citation counts as on a value
  abbrev pub counts_from : (value : List ℕ) → Counts
  counts_from value n t = cond (is_judged (kind_from first t)) (verdict_truth (verdict t value)) True

  -- format truth
  abbrev pub truth_from : (value : List ℕ) → Expr → Truth
  truth_from value e = truth_with (counts_from value) 0 e

  -- the violations
  abbrev pub violations_from : (value : List ℕ) → Expr → List ℕ
  violations_from value = violations_with (counts_from value) 0

-- presence is the same where the same texts are Hinweise and the same gate
presence-same : (first : ℕ) → ((t : List ℕ) → is_hinweis (kind_from first t) ≡ is_hinweis (kind_of t)) → ((t : List ℕ) → is_gate (kind_from first t) ≡ is_gate (kind_of t))
    → (oracle : ℕ → Result Truth Refusal) (n : ℕ) (e : Expr) → presence_from first oracle n e ≡ presence oracle n e
presence-same first h g oracle n e = ap₂ (λ hint gate. presence_with hint gate oracle n e) (fun_ext h) (fun_ext g)

-- from 901 on, it is the one that is used
pub presence_now : (oracle : ℕ → Result Truth Refusal) (n : ℕ) (e : Expr) → presence_from 901 oracle n e ≡ presence oracle n e
presence_now = presence-same 901 (λ t. ap is_hinweis (kind_now t)) (λ t. ap is_gate (kind_now t))

-- so is what citations count as, and with it format truth and the violations
pub counts_now : (value : List ℕ) → counts_from 901 value ≡ counts_on value
unfolding cited_truth
counts_now value = ap (λ kind n t. cond (is_judged (kind t)) (verdict_truth (verdict t value)) True) (fun_ext kind_now)

-- the package rows are the same where the same texts are Pakete
rows_same : (first : ℕ) → ((t : List ℕ) → is_paket (kind_from first t) ≡ is_paket (kind_of t)) → (n : ℕ) (ts : List (List ℕ)) → rows_from first n ts ≡ rows_of n ts
unfolding rows_from rows_of
rows_same first h n [] = refl
rows_same first h n (t ∷ ts) = rw (h t, rows_same first h (suc n) ts)

-- from 901 on they are those that are used
pub rows_now : (n : ℕ) (ts : List (List ℕ)) → rows_from 901 n ts ≡ rows_of n ts
rows_now = rows_same 901 (λ t. ap is_paket (kind_now t))

-- they are as before
pub rows_stay : (n : ℕ) (ts : List (List ℕ)) → rows_from 900 n ts ≡ rows_of n ts
rows_stay = rows_same 900 (unseen is_paket refl)

-- choices mix as before
pub mixes_stay : (es : Exprs) → mixes_from 900 es ≡ mixes es
mixes_stay es = ap₂ (λ h g. mixes_with h g es) (fun_ext (unseen is_hinweis refl)) (fun_ext (unseen is_gate refl))

-- presence is as before, answer or refusal, whatever the oracle
pub presence_stays : (oracle : ℕ → Result Truth Refusal) (n : ℕ) (e : Expr) → presence_from 900 oracle n e ≡ presence oracle n e
presence_stays = presence-same 900 (unseen is_hinweis refl) (unseen is_gate refl)

-- the second is the first, or True where the first is Unknown
abbrev pub settles : Truth → Truth → Bool
settles v w = pairs.same v w || (pairs.same v Unknown && pairs.same w True)

-- the rules keep it
pub settles_kept : Kept settles
unfolding and_rule or_rule any
settles_kept = record { none = refl; and = refl; or = refl }

-- a truth before and now: the same, or Unknown and True
abbrev pub Settled : Truth → Truth → Type 0
Settled before now = (now ≡ before) ⊎ ((before ≡ Unknown) × (now ≡ True))

settled : (v w : Truth) → settles v w ≡ true → Settled v w
settled v w = by (pairs.same v w) refl
  where
    by : (x : Bool) → pairs.same v w ≡ x → (x || (pairs.same v Unknown && pairs.same w True)) ≡ true → Settled v w
    by true e h = inl (sym (same_is v w e))
    by false e h = let s = and_both (pairs.same v Unknown) (pairs.same w True) h in inr (same_is v Unknown s.0, same_is w True s.1)

module _ (value : List ℕ) where
  counts_settle : (n : ℕ) (t : List ℕ) → settles (counts_from 900 value n t) (counts_on value n t) ≡ true
  unfolding cited_truth
  counts_settle n t = by (kind_moves t)
    where
      by : Moves t (kind_from 900 t) (kind_of t) → settles (counts_from 900 value n t) (counts_on value n t) ≡ true
      by (inl is) = rw (is, same_refl (counts_on value n t))
      by (inr m) = rw (m.1, m.2, unregistered_900 t value m.0)

  truths_settle : (n : ℕ) (e : Expr) → settles (truth_with (counts_from 900 value) n e) (truth_with (counts_on value) n e) ≡ true
  truths_settle n e = truth_kept settles (counts_from 900 value) (counts_on value) settles_kept n e (λ i l. counts_settle (n + i) (get_or (citations e) i []))

  -- a format truth is as before, or was Unknown and is True
  pub truth-settles : (e : Expr) → Settled (truth_from 900 value e) (truth value e)
  truth-settles e = settled (truth_from 900 value e) (truth value e) (truths_settle 0 e)

  -- what is False stays so, and nothing else becomes it
  false_stays : (v w : Truth) → settles v w ≡ true → is_false v ≡ is_false w
  false_stays v w h = by (settled v w h)
    where
      by : Settled v w → is_false v ≡ is_false w
      by (inl is) = ap is_false (sym is)
      by (inr m) = ap is_false m.0 ∙ sym (ap is_false m.1)

  -- the violations are as before
  pub violations_stay : (e : Expr) → violations_from 900 value e ≡ violations value e
  violations_stay e = violations_kept settles (counts_from 900 value) (counts_on value) settles_kept false_stays 0 e (λ i l. counts_settle (0 + i) (get_or (citations e) i []))

-- `[900]` itself was Unknown and is True
pub nine_hundred : (truth_from 900 [] (cite (ascii "900")) ≡ Unknown) × (truth [] (cite (ascii "900")) ≡ True)
unfolding truth_with cited_truth kind_from kind_of_number_from kind_of kind_of_number number_up_to verdict rule_of
nine_hundred = (refl, refl)

-- The answers, with their refusals.

module _ (first : ℕ) where
  -- `eval`
  unfoldable pub eval_from : (tree answers : List ℕ) → Result Truth Refusal
  eval_from tree answers = then (tree_of tree) (λ e. unless (answers_fit e answers) WrongAnswers (presence_from first (oracle_of answers) 0 e))

  -- `pakete`
  unfoldable pub pakete_from : (tree : List ℕ) → Outcome ℕ
  pakete_from tree = map_ok (λ e. rowed (rows_from first 0 (citations e))) (tree_of tree)

  -- `verdicts`
  unfoldable pub verdicts_from : (tree value : List ℕ) → Outcome (Truth × ℕ)
  verdicts_from tree value = then (tree_of tree) (λ e. admitted value_limit value (Ok (with_numbers (truth_from first value e) (violations_from first value e))))

  -- `eval_and_truth`
  unfoldable pub eval_and_truth_from : (tree answers value : List ℕ) → Result (Truth × Truth) Refusal
  eval_and_truth_from tree answers value =
      then (tree_of tree)
      (λ e. unless (answers_fit e answers) WrongAnswers (admitted value_limit value (map_ok (λ p. (p, truth_from first value e)) (presence_from first (oracle_of answers) 0 e))))

-- from 901 on they are the answers of the public functions
pub record AreNow (tree : List ℕ) : Type 0 where
  pub eval : (answers : List ℕ) → eval_from 901 tree answers ≡ eval_answer tree answers
  pub pakete : pakete_from 901 tree ≡ pakete_answer tree
  pub verdicts : (value : List ℕ) → verdicts_from 901 tree value ≡ verdicts_answer tree value
  pub eval_and_truth : (answers value : List ℕ) → eval_and_truth_from 901 tree answers value ≡ eval_and_truth_answer tree answers value

-- a truth and a list before and now: the same, refusals among them, or Unknown and True, and no violation in either
abbrev pub SettledVerdicts : Outcome (Truth × ℕ) → Outcome (Truth × ℕ) → Type 0
SettledVerdicts before now = (now ≡ before) ⊎ ((before ≡ Ok (with_numbers Unknown [])) × (now ≡ Ok (with_numbers True [])))

-- two answers before and now: the same, refusals among them, or one presence with Unknown and with True
abbrev pub SettledBoth : Result (Truth × Truth) Refusal → Result (Truth × Truth) Refusal → Type 0
SettledBoth before now = (now ≡ before) ⊎ ((p : Truth) × (before ≡ Ok (p, Unknown)) × (now ≡ Ok (p, True)))

-- what the public functions answer on a tree, with Format from 900 and now, whatever the answer bytes and the value
pub record AsBefore (tree : List ℕ) : Type 0 where
  -- the presence answer or refusal
  pub eval : (answers : List ℕ) → eval_from 900 tree answers ≡ eval_answer tree answers
  -- the package rows, their count, or the refusal
  pub pakete : pakete_from 900 tree ≡ pakete_answer tree
  -- the format truth and the violations in their order, or the refusal
  pub verdicts : (value : List ℕ) → SettledVerdicts (verdicts_from 900 tree value) (verdicts_answer tree value)
  -- presence and format truth together
  pub eval_and_truth : (answers value : List ℕ) → SettledBoth (eval_and_truth_from 900 tree answers value) (eval_and_truth_answer tree answers value)

module _ (tree : List ℕ) where
  eval_same : (first : ℕ) → ((oracle : ℕ → Result Truth Refusal) (n : ℕ) (e : Expr) → presence_from first oracle n e ≡ presence oracle n e)
      → (answers : List ℕ) → eval_from first tree answers ≡ eval_answer tree answers
  unfolding eval_from eval_answer
  eval_same first h answers = ap (λ f. then (tree_of tree) (λ e. unless (answers_fit e answers) WrongAnswers (f e))) (fun_ext (h (oracle_of answers) 0))

  pakete-same : (first : ℕ) → ((n : ℕ) (ts : List (List ℕ)) → rows_from first n ts ≡ rows_of n ts) → pakete_from first tree ≡ pakete_answer tree
  unfolding pakete_from pakete_answer pakete
  pakete-same first h = ap (λ f. map_ok (λ e. rowed (f (citations e))) (tree_of tree)) (fun_ext (h 0))

  verdicts_now : (value : List ℕ) → verdicts_from 901 tree value ≡ verdicts_answer tree value
  unfolding verdicts_from verdicts_answer
  verdicts_now value = ap (λ c. then (tree_of tree) (λ e. admitted value_limit value (Ok (with_numbers (truth_with c 0 e) (violations_with c 0 e))))) (counts_now value)

  both_now : (answers value : List ℕ) → eval_and_truth_from 901 tree answers value ≡ eval_and_truth_answer tree answers value
  unfolding eval_and_truth_from eval_and_truth_answer
  both_now answers value =
      ap₂ (λ f c. then (tree_of tree) (λ e. unless (answers_fit e answers) WrongAnswers (admitted value_limit value (map_ok (λ p. (p, truth_with c 0 e)) (f e)))))
      (fun_ext (presence_now (oracle_of answers) 0)) (counts_now value)

-- for every byte string
pub are_now : (tree : List ℕ) → AreNow tree
are_now tree = record {
  eval = eval_same tree 901 presence_now;
  pakete = pakete-same tree 901 rows_now;
  verdicts = verdicts_now tree;
  eval_and_truth = both_now tree;
}

-- what holds of two answers, and of one and itself, holds of them after the same test
unless_related : {A : Type 0} (R : Result A Refusal → Result A Refusal → Type 0) → ((r : Result A Refusal) → R r r) → (t : Bool) (why : Refusal) (before now : Result A Refusal) → R before now
    → R (unless t why before) (unless t why now)
unless_related R h true why before now k = k
unless_related R h false why before now k = h (Err why)

-- the same after the tests of a value
admitted_related : {A : Type 0} (R : Result A Refusal → Result A Refusal → Type 0) → ((r : Result A Refusal) → R r r) → (value : List ℕ) (before now : Result A Refusal) → R before now
    → R (admitted value_limit value before) (admitted value_limit value now)
unfolding admitted
admitted_related R h value before now k =
    unless_related R h (leb (length value) value_limit) TooLong _ _ (unless_related R h (is_utf8 value) NotUtf8 before now k)

verdicts_settle : (value : List ℕ) (e : Expr) → SettledVerdicts (Ok (with_numbers (truth_from 900 value e) (violations_from 900 value e))) (verdicts_outcome value e)
verdicts_settle value e = rw (violations_stay value e) (by (truth-settles value e))
  where
    by : Settled (truth_from 900 value e) (truth value e) → SettledVerdicts (Ok (with_numbers (truth_from 900 value e) (violations value e))) (verdicts_outcome value e)
    by (inl is) = inl (ap (λ v. Ok (with_numbers v (violations value e))) is)
    by (inr m) =
        let none = not_false_none (counts_on value) 0 e (ap is_false m.1) in
        inr (ap₂ (λ v ns. Ok (with_numbers v ns)) m.0 none, ap₂ (λ v ns. Ok (with_numbers v ns)) m.1 none)

both-settles : (r : Result Truth Refusal) (value : List ℕ) (e : Expr) → SettledBoth (map_ok (λ p. (p, truth_from 900 value e)) r) (map_ok (λ p. (p, truth value e)) r)
unfolding map_ok
both-settles (Err k) value e = inl refl
both-settles (Ok p) value e = by (truth-settles value e)
  where
    by : Settled (truth_from 900 value e) (truth value e) → SettledBoth (Ok (p, truth_from 900 value e)) (Ok (p, truth value e))
    by (inl is) = inl (ap (λ t. Ok (p, t)) is)
    by (inr m) = inr (p, ap (λ t. Ok (p, t)) m.0, ap (λ t. Ok (p, t)) m.1)

module _ (tree : List ℕ) where
  verdicts_answer_settles : (value : List ℕ) → SettledVerdicts (verdicts_from 900 tree value) (verdicts_answer tree value)
  unfolding verdicts_from verdicts_answer then
  verdicts_answer_settles value = by (tree_of tree)
    where
      by : (r : Result Expr Refusal) → SettledVerdicts
          (then r (λ e. admitted value_limit value (Ok (with_numbers (truth_from 900 value e) (violations_from 900 value e)))))
          (then r (λ e. admitted value_limit value (verdicts_outcome value e)))
      by (Ok e) = admitted_related SettledVerdicts (λ r. inl refl) value _ _ (verdicts_settle value e)
      by (Err k) = inl refl

  both_answer_settles : (answers value : List ℕ) → SettledBoth (eval_and_truth_from 900 tree answers value) (eval_and_truth_answer tree answers value)
  unfolding eval_and_truth_from eval_and_truth_answer then
  both_answer_settles answers value = rw (fun_ext (presence_stays (oracle_of answers) 0)) (by (tree_of tree))
    where
      by : (r : Result Expr Refusal) → SettledBoth
          (then r (λ e. unless (answers_fit e answers) WrongAnswers (admitted value_limit value (map_ok (λ p. (p, truth_from 900 value e)) (presence (oracle_of answers) 0 e)))))
          (then r (λ e. unless (answers_fit e answers) WrongAnswers (admitted value_limit value (map_ok (λ p. (p, truth value e)) (presence (oracle_of answers) 0 e)))))
      by (Ok e) =
          unless_related SettledBoth (λ r. inl refl) (answers_fit e answers) WrongAnswers _ _
          (admitted_related SettledBoth (λ r. inl refl) value _ _ (both-settles (presence (oracle_of answers) 0 e) value e))
      by (Err k) = inl refl

-- for every byte string: presence and violations are as before, a format truth is as before, or was Unknown and is True
pub as_before : (tree : List ℕ) → AsBefore tree
as_before tree = record {
  eval = eval_same tree 900 presence_stays;
  pakete = pakete-same tree 900 rows_stay;
  verdicts = verdicts_answer_settles tree;
  eval_and_truth = both_answer_settles tree;
}
