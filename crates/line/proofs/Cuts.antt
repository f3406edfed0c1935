-- What decides of the three lines. Assumes nothing.
use Rattle.std.specs.Prelude.{Result, Ok, Err}
use mathlib.Core.Path.{◌≡◌, refl, sym, ap, ◌∙◌}
use mathlib.Core.List.{List}
use mathlib.Core.Bool.{Bool, true, false}
use Prim.Native.Nat.{ℕ, suc, ◌<◌}
use native.Mathlib.Omega.{arith}
use lib.Dec.{leb}
use lib.ListN.{length, take}
use lib.Seq.{take_all, length-take-le}
use borrow.Author.Tests.{leb-true, leb-false, lt-leb, ne_eqb}
use Rattle.refusal.specs.Result.{unless, then, map_ok}
use Rattle.refusal.specs.declared.Refusal.{Refusal}
use Rattle.refusal.specs.declared.Refusal.TheVariants.{WrongAnswers}
use Rattle.utf8.specs.Utf8.{decode}
use Rattle.utf8.specs.Limits.{text_limit, value_limit, admitted}
use Rattle.utf8.proofs.Limits.{too_long}
use Rattle.citation.specs.declared.Truth.{Truth}
use Rattle.status.specs.declared.StatusKind.{StatusKind}
use Rattle.grammar.specs.Expr.{Expr, count}
use Rattle.grammar.specs.Reading.{citation_limit, Fits}
use Rattle.grammar.specs.Status.{Stated, alone, stated, words, of_words, status_reading}
use Rattle.grammar.specs.Bytes.{bytes_of}
use Rattle.grammar.proofs.Theorems.{status_fits, tree_of_bytes}
use Rattle.semantics.specs.Truth.{truth}
use Rattle.semantics.specs.Presence.{answers_fit}
use Rattle.semantics.specs.Answers.{presence_by, eval_and_truth_answer}
use Rattle.verdicts.proofs.Laws.{map_tested}
use Rattle.line.specs.Sizes.{kept_status, kept_answers, kept_value}
use Rattle.line.specs.Lines.{answer_bytes, tree_lines, judged_lines, stated_lines, shown, lines}
use Rattle.line.proofs.Texts.{answers_length}

-- one byte more than is admitted decides as the whole does
cut-admitted : {A : Type 0} (most : ℕ) (t : List ℕ) (f : List ℕ → Result A Refusal) → admitted most (take (suc most) t) (f (take (suc most) t)) ≡ admitted most t (f t)
cut-admitted {A} most t f = by (leb (length t) most) refl
  where
    by : (b : Bool) → leb (length t) most ≡ b → admitted most (take (suc most) t) (f (take (suc most) t)) ≡ admitted most t (f t)
    by true h = ap (λ x. admitted most x (f x)) (take_all (suc most) t (omega (arith, leb-true (length t) most h)))
    by false h =
        let long : length (take (suc most) t) ≡ suc most = length-take-le (suc most) t (omega (arith, leb-false (length t) most h)) in
        too_long most (take (suc most) t) (f (take (suc most) t)) (lt-leb (length (take (suc most) t)) most (omega (arith, long))) ∙ sym (too_long most t (f t) h)

cut_status : (s : List ℕ) → status_reading (take kept_status s) ≡ status_reading s
unfolding status_reading
cut_status s = cut-admitted text_limit s (λ x. of_words (words (decode x)))

unfit : (e : Expr) (c : List ℕ) → Fits e → citation_limit < length c → answers_fit e c ≡ false
unfolding answers_fit
unfit e c f h = rw (ne_eqb (length c) (count e) (λ q. omega (arith, q, h, f.few)))

module _ (k : StatusKind) (e : Expr) (fit : Fits e) where
  -- the lines once the answers and the value are admitted
  abbrev said : (c v : List ℕ) → Result (List ℕ) Refusal
  said c v = map_ok (λ (both : Truth × Truth). tree_lines k e v both.0 both.1) (map_ok (λ p. (p, truth v e)) (presence_by c e))

  judged_is : (c v : List ℕ) → judged_lines k (bytes_of e) e c v ≡ unless (answers_fit e c) WrongAnswers (admitted value_limit v (said c v))
  unfolding judged_lines eval_and_truth_answer then
  judged_is c v =
      rw (tree_of_bytes e fit) (map_tested (λ (both : Truth × Truth). tree_lines k e v both.0 both.1) (answers_fit e c) v (map_ok (λ p. (p, truth v e)) (presence_by c e)))

  cut-value : (c v : List ℕ) → judged_lines k (bytes_of e) e c (take kept_value v) ≡ judged_lines k (bytes_of e) e c v
  cut-value c v = judged_is c (take kept_value v) ∙ ap (unless (answers_fit e c) WrongAnswers) (cut-admitted value_limit v (said c)) ∙ sym (judged_is c v)

  cut_answers : (a v : List ℕ) → judged_lines k (bytes_of e) e (answer_bytes (take kept_answers a)) v ≡ judged_lines k (bytes_of e) e (answer_bytes a) v
  cut_answers a v = by (leb (length a) citation_limit) refl
    where
      by : (b : Bool) → leb (length a) citation_limit ≡ b → judged_lines k (bytes_of e) e (answer_bytes (take kept_answers a)) v ≡ judged_lines k (bytes_of e) e (answer_bytes a) v
      by true h = ap (λ x. judged_lines k (bytes_of e) e (answer_bytes x) v) (take_all kept_answers a (omega (arith, leb-true (length a) citation_limit h)))
      by false h =
          let more = leb-false (length a) citation_limit h in
          let long = length-take-le kept_answers a (omega (arith, more)) in
          let cut = unfit e (answer_bytes (take kept_answers a)) fit (omega (arith, answers_length (take kept_answers a), long)) in
          let all = unfit e (answer_bytes a) fit (omega (arith, answers_length a, more)) in
          judged_is (answer_bytes (take kept_answers a)) v ∙ ap (λ x. unless x WrongAnswers (admitted value_limit v (said (answer_bytes (take kept_answers a)) v))) cut
          ∙ sym (judged_is (answer_bytes a) v ∙ ap (λ x. unless x WrongAnswers (admitted value_limit v (said (answer_bytes a) v))) all)

cut_stated : (s a v : List ℕ) (x : Result Stated Refusal) → status_reading s ≡ x → then x (λ t. stated_lines t (take kept_answers a) (take kept_value v)) ≡ then x (λ t. stated_lines t a v)
unfolding then stated_lines
cut_stated s a v (Err j) q = refl
cut_stated s a v (Ok (alone k)) q = refl
cut_stated s a v (Ok (stated k e)) q =
    let fit = status_fits s k e q in
    cut-value k e fit (answer_bytes (take kept_answers a)) v ∙ cut_answers k e fit a v

-- cutting the lines to what decides changes nothing
pub cut-lines : (s a v : List ℕ) → lines (take kept_status s) (take kept_answers a) (take kept_value v) ≡ lines s a v
unfolding lines
cut-lines s a v = ap shown (ap (λ x. then x (λ t. stated_lines t (take kept_answers a) (take kept_value v))) (cut_status s) ∙ cut_stated s a v (status_reading s) refl)
