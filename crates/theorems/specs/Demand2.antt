-- Demand 2: functions are proved equal to definitions. That is each function's own contract; this is the table of them. `said` stands for the
-- definition that gives an answer's number and values for each case of its enum; each is injective, so the equation determines the answer.
--
-- | function | its contract | definitions to believe |
-- |---|---|---|
-- | `reader::Expr::parse(text, out)` | said ≡ answer_of (parse_answer text) (length out); out after ≡ written_of (parse_answer text) out | grammar: Lex, Parse, Reading, Expr, Rows, Bytes, Outcome; utf8: Utf8, White, Limits |
-- | `reader::Status::parse(text, out)` | the same of status_answer text | grammar: Status; status: Status |
-- | `printer::display(tree, out)` | the same of display_answer tree | grammar: Print, Bytes |
-- | `tree::is_tree(tree)` | ≡ is_tree tree | grammar: Bytes, by `tree_exactly` its encoder alone |
-- | `tree::cited(tree, number)` | said ≡ cited_answer tree number | tree: Cited |
-- | `presence::eval(tree, answers)` | said ≡ eval_answer tree answers | semantics: Presence, Rules; citation: Kinds |
-- | `packages::pakete(tree, out)` | as display, of pakete_answer tree | semantics: Packages; citation: Pakete |
-- | `verdicts::verdicts(tree, value, list)` | as display, of verdicts_answer tree value | semantics: Truth, Violations, Rules; formats: Table, Rules |
-- | `verdicts::verdicts_of(tree, value, list)`, of a tested tree | as display, of verdicts_outcome value and the tree's expression | the same |
-- | `verdicts::eval_and_truth(tree, answers, value)` | said ≡ eval_and_truth_answer tree answers value | semantics: Answers |
-- | `verdicts::eval_admitted(tree, answers, value)`, of a tested tree | said ≡ admitted_presence answers value and the tree's expression | the same |
-- | `citation::ConditionKind::of(text)` | said ≡ kind_answer text | citation: Kinds; text: Digits |
-- | `citation::Paket::parse(text)` | said ≡ paket_answer text | citation: Pakete |
-- | `formats::evaluate(text, value)` | said ≡ verdict_answer text value | formats: Table, Rules; decimal: Decimal; moment: Moments; calendar: Calendar |
-- | `formats::is_registered(text)` | said ≡ registered_answer text | formats: Table |
-- | `line::report(status, answers, value, out)` | as display, of report_answer status answers value | line: Lines |
-- | `ahb_read`, `ahb_presence`, `ahb_verdicts` | the number of these answers; the buffer as above | ahb: Numbers, Answers |
--
-- Below, what pins definitions that would otherwise have to be read as code. Assumes nothing.
use Rattle.std.specs.Prelude.{◌≡◌, List, cond, ◌↔◌, ℕ, Ok}
use Rattle.citation.specs.declared.Truth.{Truth}
use Rattle.citation.specs.declared.Truth.TheVariants.{False, Unknown, True, Neutral}
use Rattle.grammar.specs.Expr.{Expr}
use Rattle.grammar.specs.Reading.{Fits}
use Rattle.grammar.specs.Bytes.{bytes_of, tree_of}
use Rattle.grammar.specs.Pack.{IsBytes}
use Rattle.grammar.proofs.Theorems as grammar
use Rattle.semantics.specs.Rules.{is_false, is_unknown, any, and_rule, or_rule, xor_rule}
use Rattle.semantics.proofs.Sentences as sentences
use Rattle.semantics.specs.Sentences.{only_neutral, filled, or_of_filled, xor_of_filled}

-- bytes are the tree of an expression exactly if it fits the limits and they are its bytes
pub tree_exactly : (b : List ℕ) → IsBytes b → (e : Expr) → (tree_of b ≡ Ok e) ↔ (Fits e × (bytes_of e ≡ b))
tree_exactly = grammar.tree_exactly

-- Then and And: False if any is, else Unknown if any is, else Neutral if all are, else True
pub and_says : (vs : List Truth) → and_rule vs ≡ cond (any is_false vs) False (cond (any is_unknown vs) Unknown (cond (only_neutral vs) Neutral True))
and_says = sentences.and_says

-- Or goes by the values that are not Neutral
pub or_says : (vs : List Truth) → or_rule vs ≡ or_of_filled (filled vs)
or_says = sentences.or_says

-- and so does Xor
pub xor_says : (vs : List Truth) → xor_rule vs ≡ xor_of_filled (filled vs)
xor_says = sentences.xor_says
