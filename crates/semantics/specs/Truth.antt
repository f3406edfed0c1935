-- Format truth: whether a value is right by the Format and Zeitpunkt conditions (docs/SEMANTICS.md, 'Format truth and violations'). It is a truth and no answer that could be 7 or 8. Assumes nothing.
use Rattle.std.specs.Prelude.{List, [], ◌∷◌, Bool, true, false, cond, ℕ, ◌+◌}
use Rattle.citation.specs.declared.ConditionKind.{ConditionKind}
use Rattle.citation.specs.declared.ConditionKind.TheVariants.{Voraussetzung, Hinweis, Format, Wiederholbarkeit, Zeitpunkt, Paket, Other}
use Rattle.citation.specs.Kinds.{kind_of}
use Rattle.citation.specs.declared.Truth.{Truth}
use Rattle.citation.specs.declared.Truth.TheVariants.{True}
use Rattle.formats.specs.Table.{verdict}
use Rattle.formats.specs.Answers.{verdict_truth}
use Rattle.grammar.specs.Expr.{Op, And, Or, Xor, Expr, Exprs, cite, Then, join, none, more, count}
use Rattle.semantics.specs.Rules.{and_rule, or_rule}

-- the kind is judged by the value: Format or Zeitpunkt
abbrev pub is_judged : ConditionKind → Bool
is_judged Voraussetzung = false
is_judged Hinweis = false
is_judged Format = true
is_judged Wiederholbarkeit = false
is_judged Zeitpunkt = true
is_judged Paket = false
is_judged Other = false

-- what each citation counts as, by its number and its text
abbrev pub Counts : Type 0
Counts = ℕ → List ℕ → Truth

-- how an operator joins format truths: by the rules of presence, but a Xor is judged as an Or is
abbrev pub format_rule : Op → List Truth → Truth
format_rule And = and_rule
format_rule Or = or_rule
format_rule Xor = or_rule

module _ (counts : Counts) where
  unfoldable mutual
    -- the format truth of an expression whose first citation has the number n, by what each citation counts as; every operand counts
    pub truth_with : ℕ → Expr → Truth
    truth_with n (cite t) = counts n t
    truth_with n (Then es) = format_rule And (truths_with n es)
    truth_with n (join o es) = format_rule o (truths_with n es)

    -- the operands' format truths, from left to right
    pub truths_with : ℕ → Exprs → List Truth
    truths_with n none = []
    truths_with n (more e es) = truth_with n e ∷ truths_with (n + count e) es

module _ (value : List ℕ) where
  -- what a citation's text counts as: its verdict on the value if it is judged, else True
  unfoldable pub cited_truth : List ℕ → Truth
  cited_truth t = cond (is_judged (kind_of t)) (verdict_truth (verdict t value)) True

  -- what each citation counts as on the value, whatever its number
  abbrev pub counts_on : Counts
  counts_on n t = cited_truth t

  -- the format truth of an expression on the value
  abbrev pub truth : Expr → Truth
  truth e = truth_with counts_on 0 e
