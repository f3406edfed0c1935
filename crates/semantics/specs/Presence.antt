-- Presence: whether a field is to be filled (docs/SEMANTICS.md, 'Presence'). Assumes nothing.
use Rattle.std.specs.Prelude.{List, [], ◌∷◌, Bool, true, false, cond, not, ◌&&◌, ◌||◌, ℕ, ◌+◌, eqb, leb, length, get_or, Result, Ok, Err}
use Rattle.refusal.specs.declared.Refusal.{Refusal}
use Rattle.refusal.specs.Result.{unless, map_ok}
use Rattle.refusal.specs.declared.Refusal.TheVariants.{ChoiceOverNeutral, FailedAnswer}
use Rattle.text.specs.Bytes.{all}
use Rattle.citation.specs.declared.ConditionKind.{ConditionKind}
use Rattle.citation.specs.declared.ConditionKind.TheVariants.{Voraussetzung, Hinweis, Format, Wiederholbarkeit, Zeitpunkt, Paket, Other}
use Rattle.citation.specs.Kinds.{kind_of}
use Rattle.citation.specs.declared.Truth.{Truth}
use Rattle.citation.specs.declared.Truth.TheVariants.{False, Unknown, True, Neutral}
use Rattle.citation.specs.Truths.{truth_number}
use Rattle.grammar.specs.Expr.{And, Or, Xor, Expr, Exprs, cite, Then, join, none, more, citations, count}
use Rattle.semantics.specs.Rules.{any, every, and_rule, or_rule, xor_rule}

-- the kind is Hinweis
abbrev pub is_hinweis : ConditionKind → Bool
is_hinweis Voraussetzung = false
is_hinweis Hinweis = true
is_hinweis Format = false
is_hinweis Wiederholbarkeit = false
is_hinweis Zeitpunkt = false
is_hinweis Paket = false
is_hinweis Other = false

-- the kind gates the field: a Voraussetzung or a Paket
abbrev pub is_gate : ConditionKind → Bool
is_gate Voraussetzung = true
is_gate Hinweis = false
is_gate Format = false
is_gate Wiederholbarkeit = false
is_gate Zeitpunkt = false
is_gate Paket = true
is_gate Other = false

-- a value before others, or the first refusal met
unfoldable pub before : Result Truth Refusal → Result (List Truth) Refusal → Result (List Truth) Refusal
before (Ok v) (Ok vs) = Ok (v ∷ vs)
before (Ok v) (Err k) = Err k
before (Err k) vs = Err k

-- an operand's value before those of the others; that of a dropped operand is not looked at
abbrev pub valued : Bool → Result Truth Refusal → Result (List Truth) Refusal → Result (List Truth) Refusal
valued true v vs = vs
valued false v vs = before v vs

-- a choice by a rule over its kept operands' values; one that mixes is turned back with 7, before any value is looked at
abbrev pub choice : (mixed : Bool) → (List Truth → Truth) → Result (List Truth) Refusal → Result Truth Refusal
choice mixed rule vs = unless (not mixed) ChoiceOverNeutral (map_ok rule vs)

-- What presence looks at of a text is handed in: whether it is a Hinweis, and whether it gates.
module _ (hint gate : List ℕ → Bool) where
  -- a choice drops the operand: it cites only Hinweise
  abbrev pub dropped_with : Expr → Bool
  dropped_with e = every hint (citations e)

  -- a kept operand cites a text that gates
  unfoldable pub some_gate_with : Exprs → Bool
  some_gate_with none = false
  some_gate_with (more e es) = (not (dropped_with e) && any gate (citations e)) || some_gate_with es

  -- a kept operand cites no such text
  unfoldable pub some_free_with : Exprs → Bool
  some_free_with none = false
  some_free_with (more e es) = (not (dropped_with e) && not (any gate (citations e))) || some_free_with es

  -- a choice mixes: one kept operand gates, and another does not
  abbrev pub mixes_with : Exprs → Bool
  mixes_with es = some_gate_with es && some_free_with es

  module _ (oracle : ℕ → Result Truth Refusal) where
    unfoldable mutual
      -- the presence of an expression whose first citation has the number n; the oracle answers each citation's number
      pub presence_with : ℕ → Expr → Result Truth Refusal
      presence_with n (cite t) = oracle n
      presence_with n (Then es) = map_ok and_rule (values_with false n es)
      presence_with n (join And es) = map_ok and_rule (values_with false n es)
      presence_with n (join Or es) = choice (mixes_with es) or_rule (values_with true n es)
      presence_with n (join Xor es) = choice (mixes_with es) xor_rule (values_with true n es)

      -- the operands' values, from left to right; a choice leaves out the dropped
      pub values_with : (choosing : Bool) → ℕ → Exprs → Result (List Truth) Refusal
      values_with choosing n none = Ok []
      values_with choosing n (more e es) = valued (choosing && dropped_with e) (presence_with n e) (values_with choosing (n + count e) es)

-- By the kinds of texts, as the public functions judge.

-- the text is a Hinweis
abbrev pub is_hinweis_text : List ℕ → Bool
is_hinweis_text t = is_hinweis (kind_of t)

-- the text gates
abbrev pub is_gate_text : List ℕ → Bool
is_gate_text t = is_gate (kind_of t)

-- these texts are Hinweise only
abbrev pub only_hinweise : List (List ℕ) → Bool
only_hinweise = every is_hinweis_text

-- one of these texts gates
abbrev pub gates : List (List ℕ) → Bool
gates = any is_gate_text

-- a choice drops the operand
abbrev pub dropped : Expr → Bool
dropped = dropped_with is_hinweis_text is_gate_text

-- a kept operand cites a Voraussetzung or a Paket
abbrev pub some_gate : Exprs → Bool
some_gate = some_gate_with is_hinweis_text is_gate_text

-- a kept operand cites neither
abbrev pub some_free : Exprs → Bool
some_free = some_free_with is_hinweis_text is_gate_text

-- a choice mixes
abbrev pub mixes : Exprs → Bool
mixes = mixes_with is_hinweis_text is_gate_text

-- the presence of an expression, by an oracle and the number of its first citation
abbrev pub presence : (oracle : ℕ → Result Truth Refusal) → ℕ → Expr → Result Truth Refusal
presence = presence_with is_hinweis_text is_gate_text

-- the operands' values
abbrev pub values : (oracle : ℕ → Result Truth Refusal) (choosing : Bool) → ℕ → Exprs → Result (List Truth) Refusal
values = values_with is_hinweis_text is_gate_text

-- the answer byte of a citation whose evaluation failed
abbrev pub failed : ℕ
failed = 4

-- an answer byte's truth; a failed evaluation is turned back with 8
unfoldable pub answered : ℕ → Result Truth Refusal
answered b =
    cond (eqb b (truth_number False)) (Ok False)
    (cond (eqb b (truth_number Unknown)) (Ok Unknown)
    (cond (eqb b (truth_number True)) (Ok True)
    (cond (eqb b (truth_number Neutral)) (Ok Neutral)
    (Err FailedAnswer))))

-- answer bytes as an oracle
abbrev pub oracle_of : List ℕ → ℕ → Result Truth Refusal
oracle_of answers n = answered (get_or answers n failed)

-- one answer byte a citation, none over 4
unfoldable pub answers_fit : Expr → List ℕ → Bool
answers_fit e answers = eqb (length answers) (count e) && all (λ b. leb b failed) answers
