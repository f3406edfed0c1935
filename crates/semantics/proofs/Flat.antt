-- A tree and its flat tree say the same. Assumes nothing.
use Rattle.std.specs.Prelude.{◌≡◌, Bool, true, cond, ℕ, ◌+◌, length, Result, Ok, Err}
use Rattle.std.proofs.Math.Path.{refl}
use Rattle.std.proofs.Common.{sym, ◌∙◌}
use mathlib.Core.List.{List, [], ◌++◌, append_assoc, append-nil}
use Rattle.std.proofs.Math.Bool.{false}
use Rattle.std.proofs.lemmas.Bool.{or_parts}
use Rattle.std.proofs.Math.Nat.{add_assoc, add-zero}
use Rattle.std.proofs.Math.ListN.{length-append}
use Rattle.refusal.specs.declared.Refusal.{Refusal}
use Rattle.refusal.specs.Result.{map_ok}
use Rattle.citation.specs.declared.Truth.{Truth}
use Rattle.citation.specs.declared.Truth.TheVariants.{Neutral}
use Rattle.grammar.specs.Expr.{And, Or, Xor, Expr, Exprs, cite, Then, join, none, more, ◌◂◌, ◌⧺◌, citations, citations_of, count}
use Rattle.grammar.specs.Flat.{operands, flat, flats, spliced}
use Rattle.grammar.proofs.Flat.{citations_flat}
use Rattle.semantics.specs.Rules.{is_false, any, and_rule}
use Rattle.semantics.specs.Presence.{some_gate_with, some_free_with, some_gate, some_free, before, presence_with, values_with, presence, values, answers_fit}
use Rattle.semantics.specs.Truth.{Counts, format_rule, truth_with, truths_with}
use Rattle.semantics.specs.Violations.{fails, violations_with, violations_of}
use Rattle.semantics.specs.Pairs.{pair}
use Rattle.semantics.proofs.Pairs.{rule_none, rule_more, and_false, and_assoc, and_neutral, neutral_and}
use Rattle.semantics.specs.Packages.{pakete}

-- Then and And of two answers: the first refusal met, else the truths joined. What a Then inside a Then says counts as what its operands say, since this is associative
both_said : Result Truth Refusal → Result Truth Refusal → Result Truth Refusal
both_said (Ok a) (Ok b) = Ok (pair And a b)
both_said (Ok a) (Err k) = Err k
both_said (Err k) b = Err k

said_assoc : (a b c : Result Truth Refusal) → both_said (both_said a b) c ≡ both_said a (both_said b c)
unfolding both_said
said_assoc (Ok a) (Ok b) (Ok c) = rw (and_assoc a b c)
said_assoc (Ok a) (Ok b) (Err k) = refl
said_assoc (Ok a) (Err k) c = refl
said_assoc (Err k) b c = refl

said_neutral : (a : Result Truth Refusal) → both_said a (Ok Neutral) ≡ a
unfolding both_said
said_neutral (Ok a) = rw (and_neutral a)
said_neutral (Err k) = refl

neutral_said : (a : Result Truth Refusal) → both_said (Ok Neutral) a ≡ a
unfolding both_said
neutral_said (Ok a) = rw (neutral_and a)
neutral_said (Err k) = refl

map-before : (v : Result Truth Refusal) (vs : Result (List Truth) Refusal) → map_ok and_rule (before v vs) ≡ both_said v (map_ok and_rule vs)
unfolding map_ok before both_said
map-before (Ok v) (Ok vs) = rw (rule_more And v vs)
map-before (Ok v) (Err k) = refl
map-before (Err k) vs = refl

count-operands : (e : Expr) → length (citations_of (operands e)) ≡ count e
unfolding citations_of operands
count-operands (cite t) = refl
count-operands (Then es) = refl
count-operands (join o es) = rw append-nil

gate_flats : (es : Exprs) → some_gate (flats es) ≡ some_gate es
unfolding some_gate_with flats
gate_flats none = refl
gate_flats (more e es) = rw (citations_flat e, gate_flats es)

free_flats : (es : Exprs) → some_free (flats es) ≡ some_free es
unfolding some_free_with flats
free_flats none = refl
free_flats (more e es) = rw (citations_flat e, free_flats es)

module _ (oracle : ℕ → Result Truth Refusal) where
  all_of : ℕ → Exprs → Result Truth Refusal
  all_of n es = map_ok and_rule (values oracle false n es)

  all_more : (n : ℕ) (e : Expr) (es : Exprs) → all_of n (e ◂ es) ≡ both_said (presence oracle n e) (all_of (n + count e) es)
  unfolding all_of values_with
  all_more n e es = map-before (presence oracle n e) (values oracle false (n + count e) es)

  all_none : (n : ℕ) → all_of n none ≡ Ok Neutral
  unfolding all_of values_with map_ok and_rule any
  all_none n = refl

  all_append : (n : ℕ) (a b : Exprs) → all_of n (a ⧺ b) ≡ both_said (all_of n a) (all_of (n + length (citations_of a)) b)
  unfolding citations_of ◌⧺◌
  all_append n none b = rw (add-zero, all_none) (sym (neutral_said (all_of n b)))
  all_append n (more e a) b =
      rw (all_more n e (a ⧺ b), all_more n e a, all_append (n + count e) a b, length-append (citations e) (citations_of a), ← add_assoc n (count e) (length (citations_of a)))
      (sym (said_assoc (presence oracle n e) (all_of (n + count e) a) _))

  all_one : (n : ℕ) (e : Expr) → all_of n (e ◂ none) ≡ presence oracle n e
  all_one n e = rw (all_more, all_none) (said_neutral (presence oracle n e))

  all-operands : (n : ℕ) (e : Expr) → all_of n (operands e) ≡ presence oracle n e
  unfolding all_of presence_with operands
  all-operands n (cite t) = all_one n (cite t)
  all-operands n (Then es) = refl
  all-operands n (join o es) = all_one n (join o es)

  mutual
    unfolding presence_with flat all_of

    -- presence does not see flattening, whatever the oracle
    pub presence_flat : (n : ℕ) (e : Expr) → presence oracle n (flat e) ≡ presence oracle n e
    presence_flat n (cite t) = refl
    presence_flat n (Then es) = all_spliced n es
    presence_flat n (join And es) = rw (values_flats false n es)
    presence_flat n (join Or es) = rw (gate_flats es, free_flats es, values_flats true n es)
    presence_flat n (join Xor es) = rw (gate_flats es, free_flats es, values_flats true n es)

    all_spliced : (n : ℕ) (es : Exprs) → all_of n (spliced es) ≡ all_of n es
    all_spliced n none = refl
    all_spliced n (more e es) =
        all_append n (operands (flat e)) (spliced es)
        ∙ rw (all-operands n (flat e), count-operands (flat e), citations_flat e, presence_flat n e, all_spliced (n + count e) es) (sym (all_more n e es))

    values_flats : (choosing : Bool) (n : ℕ) (es : Exprs) → values oracle choosing n (flats es) ≡ values oracle choosing n es
    values_flats choosing n none = refl
    values_flats choosing n (more e es) = rw (citations_flat e, presence_flat n e, values_flats choosing (n + count e) es)

-- nor does 16's test
pub fit_flat : (e : Expr) (answers : List ℕ) → answers_fit (flat e) answers ≡ answers_fit e answers
unfolding answers_fit
fit_flat e answers = rw (citations_flat e)

module _ (counts : Counts) where
  all_true : ℕ → Exprs → Truth
  all_true n es = format_rule And (truths_with counts n es)

  true_none : (n : ℕ) → all_true n none ≡ Neutral
  unfolding all_true truth_with
  true_none n = rule_none And

  true_more : (n : ℕ) (e : Expr) (es : Exprs) → all_true n (e ◂ es) ≡ pair And (truth_with counts n e) (all_true (n + count e) es)
  unfolding all_true truth_with
  true_more n e es = rule_more And (truth_with counts n e) (truths_with counts (n + count e) es)

  true_append : (n : ℕ) (a b : Exprs) → all_true n (a ⧺ b) ≡ pair And (all_true n a) (all_true (n + length (citations_of a)) b)
  unfolding citations_of ◌⧺◌
  true_append n none b = rw (add-zero, true_none) (sym (neutral_and (all_true n b)))
  true_append n (more e a) b =
      rw (true_more n e (a ⧺ b), true_more n e a, true_append (n + count e) a b, length-append (citations e) (citations_of a), ← add_assoc n (count e) (length (citations_of a)))
      (sym (and_assoc (truth_with counts n e) (all_true (n + count e) a) _))

  true_one : (n : ℕ) (e : Expr) → all_true n (e ◂ none) ≡ truth_with counts n e
  true_one n e = rw (true_more, true_none) (and_neutral (truth_with counts n e))

  true-operands : (n : ℕ) (e : Expr) → all_true n (operands e) ≡ truth_with counts n e
  unfolding all_true truth_with operands
  true-operands n (cite t) = true_one n (cite t)
  true-operands n (Then es) = refl
  true-operands n (join o es) = true_one n (join o es)

  mutual
    unfolding truth_with flat all_true

    -- format truth does not see flattening, whatever citations count as
    pub truth_flat : (n : ℕ) (e : Expr) → truth_with counts n (flat e) ≡ truth_with counts n e
    truth_flat n (cite t) = refl
    truth_flat n (Then es) = true_spliced n es
    truth_flat n (join o es) = rw (truths_flats n es)

    true_spliced : (n : ℕ) (es : Exprs) → all_true n (spliced es) ≡ all_true n es
    true_spliced n none = refl
    true_spliced n (more e es) =
        true_append n (operands (flat e)) (spliced es)
        ∙ rw (true-operands n (flat e), count-operands (flat e), citations_flat e, truth_flat n e, true_spliced (n + count e) es) (sym (true_more n e es))

    truths_flats : (n : ℕ) (es : Exprs) → truths_with counts n (flats es) ≡ truths_with counts n es
    truths_flats n none = refl
    truths_flats n (more e es) = rw (citations_flat e, truth_flat n e, truths_flats (n + count e) es)

  -- what is not False has no violations
  pub not_false_none : (n : ℕ) (e : Expr) → fails counts n e ≡ false → violations_with counts n e ≡ []
  unfolding violations_with
  not_false_none n (cite t) h = rw h
  not_false_none n (Then es) h = rw h
  not_false_none n (join o es) h = rw h

  none_false : (n : ℕ) (es : Exprs) → any is_false (truths_with counts n es) ≡ false → violations_of counts n es ≡ []
  unfolding violations_of truths_with any
  none_false n none h = refl
  none_false n (more e es) h =
      let s = or_parts (fails counts n e) (any is_false (truths_with counts (n + count e) es)) h in
      rw (not_false_none n e s.0) (none_false (n + count e) es s.1)

  -- a Then that is not False has no operand that is, so its violations are those of its operands
  then_violations : (n : ℕ) (es : Exprs) → violations_with counts n (Then es) ≡ violations_of counts n es
  unfolding violations_with truth_with
  then_violations n es = by (is_false (format_rule And (truths_with counts n es))) refl
    where
      by : (x : Bool) → is_false (format_rule And (truths_with counts n es)) ≡ x → cond x (violations_of counts n es) [] ≡ violations_of counts n es
      by true h = refl
      by false h = sym (none_false n es (sym (and_false (truths_with counts n es)) ∙ h))

  violations_append : (n : ℕ) (a b : Exprs) → violations_of counts n (a ⧺ b) ≡ violations_of counts n a ++ violations_of counts (n + length (citations_of a)) b
  unfolding violations_of citations_of ◌⧺◌
  violations_append n none b = rw add-zero
  violations_append n (more e a) b =
      rw (violations_append (n + count e) a b, length-append (citations e) (citations_of a), ← add_assoc n (count e) (length (citations_of a)))
      (sym (append_assoc (violations_with counts n e) (violations_of counts (n + count e) a) _))

  violations_operands : (n : ℕ) (e : Expr) → violations_of counts n (operands e) ≡ violations_with counts n e
  unfolding violations_with operands
  violations_operands n (cite t) = append-nil (violations_with counts n (cite t))
  violations_operands n (Then es) = sym (then_violations n es)
  violations_operands n (join o es) = append-nil (violations_with counts n (join o es))

  mutual
    unfolding violations_with truth_with flat

    -- nor do the violations
    pub violations_flat : (n : ℕ) (e : Expr) → violations_with counts n (flat e) ≡ violations_with counts n e
    violations_flat n (cite t) = refl
    violations_flat n (Then es) = then_violations n (spliced es) ∙ violations_spliced n es ∙ sym (then_violations n es)
    violations_flat n (join o es) = rw (truths_flats n es, violations_flats n es)

    violations_spliced : (n : ℕ) (es : Exprs) → violations_of counts n (spliced es) ≡ violations_of counts n es
    violations_spliced n none = refl
    violations_spliced n (more e es) =
        violations_append n (operands (flat e)) (spliced es)
        ∙ rw (violations_operands n (flat e), count-operands (flat e), citations_flat e, violations_flat n e, violations_spliced (n + count e) es)

    violations_flats : (n : ℕ) (es : Exprs) → violations_of counts n (flats es) ≡ violations_of counts n es
    violations_flats n none = refl
    violations_flats n (more e es) = rw (citations_flat e, violations_flat n e, violations_flats (n + count e) es)

-- the package rows do not see flattening
pub pakete_flat : (e : Expr) → pakete (flat e) ≡ pakete e
unfolding pakete
pakete_flat e = rw (citations_flat e)
