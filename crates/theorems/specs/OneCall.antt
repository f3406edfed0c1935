-- `verdicts` answers in one call what two calls answered before it, one for the format truth and one for the violations. What those two
-- answered is kept here, to be compared. Assumes nothing.
use Rattle.std.specs.Prelude.{◌≡◌, refl, List, Bool, true, false, ◌↔◌, ℕ, leb, length, Result, Ok, Err}
use Rattle.std.proofs.Common.{sym, ap, ◌∙◌}
use Rattle.refusal.specs.declared.Refusal.{Refusal}
use Rattle.refusal.specs.declared.Refusal.TheVariants.{TooLong, NotUtf8, NoRoom}
use Rattle.refusal.specs.Result.{unless, then, map_ok, err≢ok}
use Rattle.utf8.specs.Utf8.{is_utf8}
use Rattle.utf8.specs.Limits.{value_limit, admitted}
use Rattle.citation.specs.declared.Truth.{Truth}
use Rattle.grammar.specs.Expr.{Expr}
use Rattle.grammar.specs.Bytes.{tree_of}
use Rattle.grammar.specs.Outcome as outcome
use Rattle.grammar.specs.Outcome.{Written, Outcome, answer_of, written_of}
use Rattle.semantics.specs.Truth.{truth}
use Rattle.semantics.specs.Violations.{violations, number_bytes}
use Rattle.semantics.specs.Answers.{with_numbers, verdicts_outcome, verdicts_answer}

-- how many numbers there are, and their bytes
abbrev pub counted_numbers : List ℕ → Written ℕ
counted_numbers ns = record { answer = length ns; bytes = number_bytes ns }

-- the call for the format truth: 15, then the value's 10 and 11
unfoldable pub truth_alone : (tree value : List ℕ) → Result Truth Refusal
truth_alone tree value = then (tree_of tree) (λ e. admitted value_limit value (Ok (truth value e)))

-- the call for the violations: the same refusals, and last a buffer's 14
unfoldable pub violations_alone : (tree value : List ℕ) → Outcome ℕ
violations_alone tree value = then (tree_of tree) (λ e. admitted value_limit value (Ok (counted_numbers (violations value e))))

-- a truth and a count as one answer: a refusal of the first, else one of the second
abbrev pub paired : Result Truth Refusal → Result ℕ Refusal → Result (Truth × ℕ) Refusal
paired t c = then t (λ v. map_ok (λ n. (v, n)) c)

-- the one call answers the truth and the count that the two answered, and leaves the list that the second left
pub record SaidTogether (tree value buffer : List ℕ) : Type 0 where
  -- the answer or refusal, 14 among them
  pub answer : answer_of (verdicts_answer tree value) (length buffer) ≡ paired (truth_alone tree value) (answer_of (violations_alone tree value) (length buffer))
  -- the buffer's bytes afterwards
  pub list : written_of (verdicts_answer tree value) buffer ≡ written_of (violations_alone tree value) buffer

-- what the three come to before the buffer is looked at: one refusal, or one truth and one list
data Together : Result Truth Refusal → Outcome ℕ → Outcome (Truth × ℕ) → Type 0 where
  refused : (why : Refusal) → Together (Err why) (Err why) (Err why)
  answered : (v : Truth) (ns : List ℕ) → Together (Ok v) (Ok (counted_numbers ns)) (Ok (with_numbers v ns))

together : (tree value : List ℕ) → Together (truth_alone tree value) (violations_alone tree value) (verdicts_answer tree value)
unfolding truth_alone violations_alone verdicts_answer then admitted
together tree value = by (tree_of tree) (leb (length value) value_limit) (is_utf8 value)
  where
    by : (r : Result Expr Refusal) (l u : Bool) → Together
        (then r (λ e. unless l TooLong (unless u NotUtf8 (Ok (truth value e)))))
        (then r (λ e. unless l TooLong (unless u NotUtf8 (Ok (counted_numbers (violations value e))))))
        (then r (λ e. unless l TooLong (unless u NotUtf8 (verdicts_outcome value e))))
    by (Err why) l u = refused why
    by (Ok e) false u = refused TooLong
    by (Ok e) true false = refused NotUtf8
    by (Ok e) true true = answered (truth value e) (violations value e)

answers_together : (t : Result Truth Refusal) (o : Outcome ℕ) (p : Outcome (Truth × ℕ)) → Together t o p → (n : ℕ) → answer_of p n ≡ paired t (answer_of o n)
unfolding answer_of then map_ok
answers_together t o p (refused why) n = refl
answers_together t o p (answered v ns) n = by (leb (length (number_bytes ns)) n)
  where
    by : (room : Bool) → unless {A = Truth × ℕ} room NoRoom (Ok (v, length ns)) ≡ paired (Ok v) (unless room NoRoom (Ok (length ns)))
    by true = refl
    by false = refl

lists_together : (t : Result Truth Refusal) (o : Outcome ℕ) (p : Outcome (Truth × ℕ)) → Together t o p → (buffer : List ℕ) → written_of p buffer ≡ written_of o buffer
unfolding written_of
lists_together t o p (refused why) buffer = refl
lists_together t o p (answered v ns) buffer = refl

-- for every byte string, value and buffer
pub said_together : (tree value buffer : List ℕ) → SaidTogether tree value buffer
said_together tree value buffer = record {
  answer = answers_together _ _ _ (together tree value) (length buffer);
  list = lists_together _ _ _ (together tree value) buffer;
}

short_together : (t : Result Truth Refusal) (o : Outcome ℕ) (p : Outcome (Truth × ℕ)) → Together t o p → (n : ℕ) → (answer_of p n ≡ Err NoRoom) ↔ (answer_of o n ≡ Err NoRoom)
unfolding answer_of then
short_together t o p (refused why) n = (λ h. let same : why ≡ NoRoom = cc in ap Err same, λ h. let same : why ≡ NoRoom = cc in ap Err same)
short_together t o p (answered v ns) n = by (leb (length (number_bytes ns)) n)
  where
    by : (room : Bool) → (unless {A = Truth × ℕ} room NoRoom (Ok (v, length ns)) ≡ Err NoRoom) ↔ (unless room NoRoom (Ok (length ns)) ≡ Err NoRoom)
    by true = (λ h. absurd (err≢ok (sym h)), λ h. absurd (err≢ok (sym h)))
    by false = (λ h. refl, λ h. refl)

-- the one call answers 14 exactly where the call for the violations did, and with 14 it says no truth and writes nothing
pub short_says_nothing : (tree value buffer : List ℕ) → ((answer_of (verdicts_answer tree value) (length buffer) ≡ Err NoRoom) ↔ (answer_of (violations_alone tree value) (length buffer) ≡ Err NoRoom))
    × (answer_of (verdicts_answer tree value) (length buffer) ≡ Err NoRoom → written_of (verdicts_answer tree value) buffer ≡ buffer)
short_says_nothing tree value buffer =
    (short_together _ _ _ (together tree value) (length buffer), λ h. outcome.refused_keeps (verdicts_answer tree value) buffer NoRoom h)

parted : (t : Result Truth Refusal) (c : Result ℕ Refusal) (v : Truth) (n : ℕ) → paired t c ≡ Ok (v, n) → (t ≡ Ok v) × (c ≡ Ok n)
unfolding then map_ok
parted (Ok w) (Ok k) v n h = let same : ◌≡◌ {A = Truth × ℕ} (w, k) (v, n) = cc in (ap (λ x. Ok x.0) same, ap (λ x. Ok x.1) same)
parted (Ok w) (Err why) v n h = absurd (err≢ok h)
parted (Err why) c v n h = absurd (err≢ok h)

-- from an accepted answer of the one call, the answers of the two
pub told_apart : (tree value buffer : List ℕ) (v : Truth) (n : ℕ) → answer_of (verdicts_answer tree value) (length buffer) ≡ Ok (v, n)
    → (truth_alone tree value ≡ Ok v) × (answer_of (violations_alone tree value) (length buffer) ≡ Ok n)
told_apart tree value buffer v n h = parted _ _ v n (sym (said_together tree value buffer).answer ∙ h)
