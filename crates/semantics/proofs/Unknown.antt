-- What Unknown rests on, and that format truth is never Neutral. Assumes nothing.
use Rattle.std.specs.Prelude.{◌≡◌, Bool, cond, not, ◌&&◌, ◌||◌, ◌⊎◌, ℕ, ◌+◌, Result, Ok, Err}
use Rattle.std.proofs.Math.Path.{refl}
use Rattle.std.proofs.Common.{sym, ap, ◌∙◌, inl, inr, ⊎_elim, eq-eqb}
use mathlib.Core.List.Memᴰ
use mathlib.Core.List.{List, [], ◌∷◌, Memᴰ}
use Rattle.std.proofs.Math.Bool.{true, false}
use Rattle.std.proofs.lemmas.Bool.{false≢true}
use Rattle.refusal.specs.declared.Refusal.{Refusal}
use Rattle.refusal.specs.Result.{map_ok, err≢ok, unless_ok}
use Rattle.refusal.specs.declared.Refusal.TheVariants.{ChoiceOverNeutral}
use Rattle.citation.specs.Kinds.{kind_of}
use Rattle.citation.specs.declared.Truth.{Truth}
use Rattle.citation.specs.declared.Truth.TheVariants.{False, Unknown, True, Neutral}
use Rattle.formats.specs.declared.FormatVerdict.{FormatVerdict}
use Rattle.formats.specs.declared.FormatVerdict.TheVariants.{Holds, Violated, Unregistered}
use Rattle.formats.specs.Table.{verdict}
use Rattle.formats.specs.Answers.{verdict_truth}
use Rattle.grammar.specs.Expr.{And, Or, Xor, Expr, Exprs, cite, Then, join, none, more, Two, Wide, Wides, citations, citations_of, count}
use Rattle.semantics.specs.Rules.{is_false, is_unknown, is_true, is_neutral, any, and_rule, or_rule, two_true, xor_rule}
use Rattle.semantics.specs.Presence.{presence_with, dropped, mixes, choice, before, valued, presence, values}
use Rattle.semantics.specs.Evaluated.{evaluates, evaluates_of}
use Rattle.semantics.proofs.Evaluated.{first_evaluated, rest_evaluated}
use Rattle.semantics.specs.Unknown.{UnknownAmong, UnregisteredAmong}
use Rattle.semantics.specs.Truth.{is_judged, truth_with, truths_with, cited_truth, counts_on}

is_unknown_lem : (v : Truth) → is_unknown v ≡ true → v ≡ Unknown
is_unknown_lem False h = absurd (false≢true h)
is_unknown_lem Unknown h = refl
is_unknown_lem True h = absurd (false≢true h)
is_unknown_lem Neutral h = absurd (false≢true h)

or_cases : (a b : Bool) → (a || b) ≡ true → (a ≡ true) ⊎ (b ≡ true)
or_cases true b h = inl refl
or_cases false b h = inr h

-- a rule that says Unknown only where a value is Unknown
abbrev Telling : (List Truth → Truth) → Type 0
Telling rule = (vs : List Truth) → is_unknown (rule vs) ≡ true → any is_unknown vs ≡ true

and_telling : Telling and_rule
unfolding and_rule
and_telling vs = by (any is_false vs) (any is_unknown vs) (any is_true vs)
  where
    by : (f u t : Bool) → is_unknown (cond f False (cond u Unknown (cond t True Neutral))) ≡ true → u ≡ true
    by true u t h = absurd (false≢true h)
    by false true t h = refl
    by false false true h = absurd (false≢true h)
    by false false false h = absurd (false≢true h)

or_telling : Telling or_rule
unfolding or_rule
or_telling vs = by (any is_true vs) (any is_unknown vs) (any is_false vs)
  where
    by : (t u f : Bool) → is_unknown (cond t True (cond u Unknown (cond f False Neutral))) ≡ true → u ≡ true
    by true u f h = absurd (false≢true h)
    by false true f h = refl
    by false false true h = absurd (false≢true h)
    by false false false h = absurd (false≢true h)

xor_telling : Telling xor_rule
unfolding xor_rule
xor_telling vs = by (two_true vs) (any is_unknown vs) (any is_true vs) (any is_false vs)
  where
    by : (s u t f : Bool) → is_unknown (cond s False (cond u Unknown (cond t True (cond f False Neutral)))) ≡ true → u ≡ true
    by true u t f h = absurd (false≢true h)
    by false true t f h = refl
    by false false true f h = absurd (false≢true h)
    by false false false true h = absurd (false≢true h)
    by false false false false h = absurd (false≢true h)

-- values that were given, one of them Unknown
abbrev Given : Result (List Truth) Refusal → Type 0
Given r = (vs : List Truth) × (r ≡ Ok vs) × (any is_unknown vs ≡ true)

given : (rule : List Truth → Truth) → Telling rule → (r : Result (List Truth) Refusal) → map_ok rule r ≡ Ok Unknown → Given r
unfolding map_ok
given rule tell (Ok vs) h = let same : rule vs ≡ Unknown = cc in (vs, refl, tell vs (ap is_unknown same))
given rule tell (Err k) h = absurd (err≢ok h)

given_choice : (rule : List Truth → Truth) → Telling rule → (mixed : Bool) (r : Result (List Truth) Refusal) → choice mixed rule r ≡ Ok Unknown → Given r
given_choice rule tell mixed r h = given rule tell r (unless_ok (not mixed) ChoiceOverNeutral (map_ok rule r) Unknown h).1

-- an Unknown among an operand's value and the others
split : (d : Bool) (v : Result Truth Refusal) (r : Result (List Truth) Refusal) (vs : List Truth) → valued d v r ≡ Ok vs → any is_unknown vs ≡ true
    → ((d ≡ false) × (v ≡ Ok Unknown)) ⊎ Given r
unfolding before any
split true v r vs h u = inr (vs, h, u)
split false (Ok v) (Ok ws) vs h u =
    let same : v ∷ ws ≡ vs = cc in
    ⊎_elim (λ t. inl (refl, ap Ok (is_unknown_lem v t))) (λ t. inr (ws, refl, t)) (or_cases (is_unknown v) (any is_unknown ws) (ap (any is_unknown) same ∙ u))
split false (Ok v) (Err k) vs h u = absurd (err≢ok h)
split false (Err k) r vs h u = absurd (err≢ok h)

module _ (oracle : ℕ → Result Truth Refusal) where
  mutual
    unfolding presence_with evaluates any

    -- an Unknown presence comes from a citation that is evaluated and answered with Unknown
    pub unknown_cited : (n : ℕ) (e : Expr) → presence oracle n e ≡ Ok Unknown → UnknownAmong oracle (λ k. evaluates k n e)
    unknown_cited n (cite t) h = record { number = n; is_evaluated = eq-eqb n n refl; answer = h }
    unknown_cited n (Then es) h = values_unknown false n es (given and_rule and_telling _ h)
    unknown_cited n (join And es) h = values_unknown false n es (given and_rule and_telling _ h)
    unknown_cited n (join Or es) h = values_unknown true n es (given_choice or_rule or_telling (mixes es) _ h)
    unknown_cited n (join Xor es) h = values_unknown true n es (given_choice xor_rule xor_telling (mixes es) _ h)

    values_unknown : (choosing : Bool) (n : ℕ) (es : Exprs) → Given (values oracle choosing n es) → UnknownAmong oracle (λ k. evaluates_of k choosing n es)
    values_unknown choosing n none g = let same : [] ≡ g.0 = cc in absurd (false≢true (ap (any is_unknown) same ∙ g.2))
    values_unknown choosing n (more e es) g =
        ⊎_elim
        (λ l.
        let s = unknown_cited n e l.1 in
        record { number = s.number; is_evaluated = first_evaluated s.number choosing n e es l.0 s.is_evaluated; answer = s.answer })
        (λ r.
        let s = values_unknown choosing (n + count e) es r in
        record { number = s.number; is_evaluated = rest_evaluated s.number choosing n e es s.is_evaluated; answer = s.answer })
        (split (choosing && dropped e) (presence oracle n e) (values oracle choosing (n + count e) es) g.0 g.1 g.2)

module _ (value : List ℕ) where
  unregistered_cited : (t : List ℕ) → is_unknown (cited_truth value t) ≡ true → UnregisteredAmong value (t ∷ [])
  unfolding cited_truth
  unregistered_cited t = go (is_judged (kind_of t)) (verdict t value) refl refl
    where
      go : (j : Bool) (v : FormatVerdict) → is_judged (kind_of t) ≡ j → verdict t value ≡ v → is_unknown (cond j (verdict_truth v) True) ≡ true → UnregisteredAmong value (t ∷ [])
      go true Holds p q h = absurd (false≢true h)
      go true Violated p q h = absurd (false≢true h)
      go true Unregistered p q h = record { text = t; cited = Memᴰ.head refl; judged = p; unregistered = q }
      go false v p q h = absurd (false≢true h)

  mutual
    unfolding truth_with citations any

    -- format truth is Unknown only if a cited Format or Zeitpunkt condition is Unregistered
    pub truth_unknown_cited : (n : ℕ) (e : Expr) → is_unknown (truth_with (counts_on value) n e) ≡ true → UnregisteredAmong value (citations e)
    truth_unknown_cited n (cite t) h = unregistered_cited t h
    truth_unknown_cited n (Then es) h = truths_unknown n es (and_telling (truths_with (counts_on value) n es) h)
    truth_unknown_cited n (join And es) h = truths_unknown n es (and_telling (truths_with (counts_on value) n es) h)
    truth_unknown_cited n (join Or es) h = truths_unknown n es (or_telling (truths_with (counts_on value) n es) h)
    truth_unknown_cited n (join Xor es) h = truths_unknown n es (or_telling (truths_with (counts_on value) n es) h)

    truths_unknown : (n : ℕ) (es : Exprs) → any is_unknown (truths_with (counts_on value) n es) ≡ true → UnregisteredAmong value (citations_of es)
    truths_unknown n none h = absurd (false≢true h)
    truths_unknown n (more e es) h =
        ⊎_elim
        (λ l.
        let s = truth_unknown_cited n e l in
        record { text = s.text; cited = Memᴰ.append_left (citations_of es) s.cited; judged = s.judged; unregistered = s.unregistered })
        (λ r.
        let s = truths_unknown (n + count e) es r in
        record { text = s.text; cited = Memᴰ.append_right (citations e) s.cited; judged = s.judged; unregistered = s.unregistered })
        (or_cases (is_unknown (truth_with (counts_on value) n e)) (any is_unknown (truths_with (counts_on value) (n + count e) es)) h)

  and_filled : (v : Truth) (vs : List Truth) → is_neutral v ≡ false → is_neutral (and_rule (v ∷ vs)) ≡ false
  unfolding and_rule any
  and_filled v vs = by v (any is_false vs) (any is_unknown vs) (any is_true vs)
    where
      by : (v : Truth) (f u t : Bool) → is_neutral v ≡ false → is_neutral (cond (is_false v || f) False (cond (is_unknown v || u) Unknown (cond (is_true v || t) True Neutral))) ≡ false
      by False f u t h = refl
      by Unknown true u t h = refl
      by Unknown false u t h = refl
      by True true u t h = refl
      by True false true t h = refl
      by True false false t h = refl
      by Neutral f u t h = absurd (false≢true (sym h))

  or_filled : (v : Truth) (vs : List Truth) → is_neutral v ≡ false → is_neutral (or_rule (v ∷ vs)) ≡ false
  unfolding or_rule any
  or_filled v vs = by v (any is_true vs) (any is_unknown vs) (any is_false vs)
    where
      by : (v : Truth) (t u f : Bool) → is_neutral v ≡ false → is_neutral (cond (is_true v || t) True (cond (is_unknown v || u) Unknown (cond (is_false v || f) False Neutral))) ≡ false
      by False true u f h = refl
      by False false true f h = refl
      by False false false f h = refl
      by Unknown true u f h = refl
      by Unknown false u f h = refl
      by True t u f h = refl
      by Neutral t u f h = absurd (false≢true (sym h))

  cited_filled : (t : List ℕ) → is_neutral (cited_truth value t) ≡ false
  unfolding cited_truth
  cited_filled t = go (is_judged (kind_of t)) (verdict t value)
    where
      go : (j : Bool) (v : FormatVerdict) → is_neutral (cond j (verdict_truth v) True) ≡ false
      go true Holds = refl
      go true Violated = refl
      go true Unregistered = refl
      go false v = refl

  -- operands, the first of which is never Neutral
  abbrev Filled : ℕ → Exprs → Type 0
  Filled n none = ⊥
  Filled n (more e es) = is_neutral (truth_with (counts_on value) n e) ≡ false

  and_first : (n : ℕ) (es : Exprs) → Filled n es → is_neutral (and_rule (truths_with (counts_on value) n es)) ≡ false
  unfolding truth_with
  and_first n (more e es) h = and_filled (truth_with (counts_on value) n e) (truths_with (counts_on value) (n + count e) es) h
  and_first n none h = elim h [ ]

  or_first : (n : ℕ) (es : Exprs) → Filled n es → is_neutral (or_rule (truths_with (counts_on value) n es)) ≡ false
  unfolding truth_with
  or_first n (more e es) h = or_filled (truth_with (counts_on value) n e) (truths_with (counts_on value) (n + count e) es) h
  or_first n none h = elim h [ ]

  mutual
    unfolding truth_with

    -- format truth is False, Unknown or True
    pub truth-filled : (n : ℕ) (e : Expr) → Wide e → is_neutral (truth_with (counts_on value) n e) ≡ false
    truth-filled n (cite t) w = cited_filled t
    truth-filled n (Then es) w = and_first n es (first-filled n es w.0 w.1)
    truth-filled n (join And es) w = and_first n es (first-filled n es w.0 w.1)
    truth-filled n (join Or es) w = or_first n es (first-filled n es w.0 w.1)
    truth-filled n (join Xor es) w = or_first n es (first-filled n es w.0 w.1)

    first-filled : (n : ℕ) (es : Exprs) → Two es → Wides es → Filled n es
    first-filled n none t w = t
    first-filled n (more e es) t w = truth-filled n e w.0
