-- Every refusal of presence is one of the table. Assumes nothing.
use Rattle.std.specs.Prelude.{refl, List, Bool, true, false, ◌&&◌, not, ℕ, ◌+◌, eqb, get_or, Result, Ok, Err}
use Rattle.laws.specs.Tests.{cond_both}
use Rattle.refusal.specs.declared.Refusal.{Refusal}
use Rattle.refusal.specs.Result.{unless}
use Rattle.refusal.specs.Known.{Known, unless-among, map_known, then_known}
use Rattle.refusal.specs.declared.Refusal.TheVariants.{ChoiceOverNeutral, FailedAnswer, WrongAnswers}
use Rattle.citation.specs.declared.Truth.{Truth}
use Rattle.citation.specs.declared.Truth.TheVariants.{False, Unknown, True, Neutral}
use Rattle.citation.specs.Truths.{truth_number}
use Rattle.grammar.specs.Expr.{And, Or, Xor, Expr, Exprs, cite, Then, join, none, more, count}
use Rattle.grammar.specs.Bytes.{tree_of}
use Rattle.grammar.proofs.Known.{tree_of_known}
use Rattle.semantics.specs.Rules.{and_rule, or_rule, xor_rule}
use Rattle.semantics.specs.Presence.{presence_with, failed, mixes, before, valued, dropped, presence, values, answered, oracle_of, answers_fit}
use Rattle.semantics.specs.Answers.{presence_by, eval_answer}

answered_known : (b : ℕ) → Known (answered b)
unfolding answered
answered_known b =
    cond_both Known (eqb b (truth_number False)) _ _ (λ _. tt)
    λ _. cond_both Known (eqb b (truth_number Unknown)) _ _ (λ _. tt)
    λ _. cond_both Known (eqb b (truth_number True)) _ _ (λ _. tt)
    λ _. cond_both Known (eqb b (truth_number Neutral)) (Ok Neutral) (Err FailedAnswer) (λ _. tt) λ _. (FailedAnswer, refl)

valued_known : (t : Bool) (v : Result Truth Refusal) (vs : Result (List Truth) Refusal) → Known v → Known vs → Known (valued t v vs)
unfolding before
valued_known true v vs h k = k
valued_known false (Ok v) (Ok vs) h k = tt
valued_known false (Ok v) (Err n) h k = k
valued_known false (Err n) vs h k = h

module _ (answers : List ℕ) where
  mutual
    unfolding presence_with

    pub presence_known : (n : ℕ) (e : Expr) → Known (presence (oracle_of answers) n e)
    presence_known n (cite t) = answered_known (get_or answers n failed)
    presence_known n (Then es) = map_known and_rule (values (oracle_of answers) false n es) (values_known false n es)
    presence_known n (join And es) = map_known and_rule (values (oracle_of answers) false n es) (values_known false n es)
    presence_known n (join Or es) =
        unless-among (λ _. Unit {0}) (not (mixes es)) ChoiceOverNeutral _ (map_known or_rule (values (oracle_of answers) true n es) (values_known true n es))
    presence_known n (join Xor es) =
        unless-among (λ _. Unit {0}) (not (mixes es)) ChoiceOverNeutral _ (map_known xor_rule (values (oracle_of answers) true n es) (values_known true n es))

    values_known : (choosing : Bool) (n : ℕ) (es : Exprs) → Known (values (oracle_of answers) choosing n es)
    values_known choosing n none = tt
    values_known choosing n (more e es) =
        valued_known (choosing && dropped e) (presence (oracle_of answers) n e) (values (oracle_of answers) choosing (n + count e) es) (presence_known n e) (values_known choosing (n + count e) es)

-- the refusals of presence
pub eval_known : (b answers : List ℕ) → Known (eval_answer b answers)
unfolding eval_answer
eval_known b answers =
    then_known (tree_of b) (λ e. unless (answers_fit e answers) WrongAnswers (presence_by answers e)) (tree_of_known b)
    λ e. unless-among (λ _. Unit {0}) (answers_fit e answers) WrongAnswers (presence_by answers e) (presence_known answers 0 e)
