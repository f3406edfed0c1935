-- What the answers of reading, printing, packages and verdicts mean for the lines. Assumes nothing.
use Rattle.std.specs.Prelude.{Result, Ok, Err, Option, Some, None}
use Rattle.std.specs.Result.{result_unwrap_or}
use mathlib.Core.Path.{◌≡◌, refl, sym, ap, ◌∙◌, subst}
use mathlib.Core.List.{List, ◌++◌}
use mathlib.Core.Bool.{true}
use Prim.Native.Nat.{ℕ, ◌*◌, ◌≤◌, ◌<◌}
use native.Mathlib.Omega.{arith}
use lib.ListN.{length, take, drop, length-append}
use lib.Seq.{take-append_seam}
use Rattle.refusal.specs.Result.{then, map_ok, err≢ok}
use Rattle.refusal.specs.Refusals.{number_of}
use Rattle.refusal.specs.declared.Refusal.{Refusal}
use Rattle.refusal.specs.declared.Refusal.TheVariants.{NoRoom, WrongAnswers}
use Rattle.citation.specs.declared.Truth.{Truth}
use Rattle.citation.specs.declared.Truth.TheVariants.{False}
use Rattle.status.specs.declared.StatusKind.{StatusKind}
use Rattle.grammar.specs.Expr.{Expr, citations, concat}
use Rattle.grammar.specs.Print.{printed}
use Rattle.grammar.specs.Reading.{citation_limit, Fits, print_limit}
use Rattle.grammar.specs.Status.{Stated, alone, stated, status_reading}
use Rattle.grammar.specs.Bytes.{cites, texts_in, is_tree, tree_at, bytes_of, tree_limit}
use Rattle.grammar.proofs.Theorems.{status_fits, print_short, few_bytes, is_tree_lem, tree_of_bytes}
use Rattle.grammar.specs.Outcome.{Written, Outcome, answer_of, written_of, with_length, display_answer, stated_bytes, status_answer, StatusSaid}
use Rattle.grammar.proofs.Outcome.{answer_fits, written_fits, answer_short, written_short}
use Rattle.semantics.specs.Truth.{counts_on, truth}
use Rattle.semantics.specs.Violations.{violations, number_bytes}
use Rattle.semantics.specs.Packages.{paket_size, pakete}
use Rattle.semantics.proofs.Sizes.{numbers_length, rows_length}
use Rattle.semantics.specs.Answers.{with_numbers, verdicts_outcome, rowed, pakete_answer, eval_and_truth_answer}
use Rattle.fields.specs.Appended.{Appended}
use Rattle.fields.proofs.Appends.{same, whole}
use Rattle.tree.proofs.Walks.{root}
use Rattle.presence.proofs.Answers.{fit_count}
use Rattle.verdicts.proofs.Laws.{presence_unfit, both_refused}
use Rattle.line.specs.Sizes.{longest_rows, longest_list, longest_named}
use Rattle.line.specs.Lines.{answer_bytes, figures, named, line, alone_lines, tree_lines, judged_lines, stated_lines, shown, lines, report_answer}
use Rattle.line.specs.Parts.{numbers_from, AllBelow}
use Rattle.line.proofs.Texts.{answers_length}
use Rattle.line.proofs.Named.{numbers_got, listed}

module _ {A : Type 0} where
  -- the answer of a call whose result has room
  settled : (o : Outcome A) (w : Written A) (old new : List ℕ) (r : Result A Refusal) → o ≡ Ok w → length w.bytes ≤ length old → r ≡ answer_of o (length old) → new ≡ written_of o old
      → (r ≡ Ok w.answer) × (new ≡ w.bytes ++ drop (length w.bytes) old)
  settled o w old new r e h f g =
      (f ∙ ap (λ x. answer_of x (length old)) e ∙ answer_fits w (length old) h, g ∙ ap (λ x. written_of x old) e ∙ written_fits w old h)

  same_ok : {a b : A} → ◌≡◌ {A = Result A Refusal} (Ok a) (Ok b) → a ≡ b
  same_ok h = cc

  same_number : {m n : Refusal} → ◌≡◌ {A = Result A Refusal} (Err m) (Err n) → number_of m ≡ number_of n
  same_number {m} {n} h = let e : m ≡ n = cc in ap number_of e

front : (l b rest : List ℕ) (n : ℕ) → l ≡ b ++ rest → n ≡ length b → take n l ≡ b
front l b rest n e h = ap (λ (x : ℕ). take x l) h ∙ ap (take (length b)) e ∙ take-append_seam b rest

module _ (b : List ℕ) (tree : is_tree b ≡ true) where
  abbrev e : Expr
  e = tree_at b 0

  display_is : display_answer b ≡ Ok (with_length (printed e))
  unfolding display_answer map_ok
  display_is = rw (root b tree).is

  pakete_is : pakete_answer b ≡ Ok (rowed (pakete e))
  unfolding pakete_answer map_ok
  pakete_is = rw (root b tree).is

  pakete_size : (length (concat (pakete e)) ≡ paket_size * length (pakete e)) × (length (pakete e) ≤ citation_limit)
  unfolding pakete
  pakete_size = let r = rows_length 0 (citations e) in (r.0, omega (arith, r.1, (root b tree).fits.few))

  module _ (old new : List ℕ) where
    -- the print
    pub printed_into : (o : Result ℕ Refusal) → print_limit ≤ length old → o ≡ answer_of (display_answer b) (length old) → new ≡ written_of (display_answer b) old
        → (o ≡ Ok (length (printed e))) × ((n : ℕ) → n ≡ length (printed e) → (n ≤ print_limit) × (take n new ≡ printed e))
    printed_into o room f g =
        let short = print_short e (root b tree).fits in
        let s = settled (display_answer b) (with_length (printed e)) old new o display_is (omega (arith, short)) f g in
        (s.0, λ n h. (omega (arith, h, short), front new (printed e) (drop (length (printed e)) old) n s.1 h))

    -- the number of package rows
    pub rows_counted : (o : Result ℕ Refusal) → longest_rows ≤ length old → o ≡ answer_of (pakete_answer b) (length old) → new ≡ written_of (pakete_answer b) old
        → (o ≡ Ok (length (pakete e))) × ((n : ℕ) → n ≡ length (pakete e) → (n ≤ citation_limit) × (n ≡ length (pakete e)))
    rows_counted o room f g =
        let s = settled (pakete_answer b) (rowed (pakete e)) old new o pakete_is (omega (arith, pakete_size.0, pakete_size.1)) f g in
        (s.0, λ n h. (omega (arith, h, pakete_size.1), h))

    -- the format truth, and the numbers of the violations
    pub verdicts_listed : (value : List ℕ) (o : Result (Truth × ℕ) Refusal) → longest_list ≤ length old → o ≡ answer_of (verdicts_outcome value e) (length old) → new ≡ written_of (verdicts_outcome value e) old
        → (x : Truth × ℕ) → x ≡ result_unwrap_or o (False, 0)
        → record { truth : x.0 ≡ truth value e; listed : (x.1 ≤ citation_limit) × (numbers_from new x.1 0 ≡ violations value e) }
    verdicts_listed value o room f g x h =
        let ns = violations value e in
        let l = listed (counts_on value) e (root b tree).fits in
        let s = settled (verdicts_outcome value e) (with_numbers (truth value e) ns) old new o refl (omega (arith, numbers_length ns, l.few)) f g in
        let is : x ≡ (truth value e, length ns) = h ∙ ap (λ r. result_unwrap_or r (False, 0)) s.0 in
        let size : x.1 ≡ length ns = ap (λ y. y.1) is in
        record {
          truth = ap (λ y. y.0) is;
          listed = (omega (arith, size, l.few), ap (λ (y : ℕ). numbers_from new y 0) size ∙ numbers_got new (drop (length (number_bytes ns)) old) ns 0 s.1);
        }

  -- what holds of the violations' numbers, by the texts of the tree
  pub violations-small : (value ns : List ℕ) → ns ≡ violations value e → AllBelow (cites b) ns × (length (named (texts_in b) ns) ≤ longest_named) × (named (texts_in b) ns ≡ named (citations e) (violations value e))
  violations-small value ns h =
      let r = root b tree in
      let l = listed (counts_on value) e r.fits in
      let texts : named (texts_in b) ns ≡ named (citations e) (violations value e) = ap (named (texts_in b)) h ∙ ap (λ x. named x (violations value e)) (sym r.cited) in
      (subst (AllBelow (cites b)) (sym h) (subst (λ (m : ℕ). AllBelow m (violations value e)) r.counts l.below), omega (arith, ap length texts, l.small), texts)

module _ {A : Type 0} {a : A} {Goal : Type 0} where
  -- an answer that is none of the refusals
  pub never : (r : Result A Refusal) {why : Refusal} → r ≡ Ok a → r ≡ Err why → Goal
  never r h k = absurd (err≢ok (sym k ∙ h))

-- a count by an answer that is one
pub counted : (r : Result ℕ Refusal) (n m : ℕ) → r ≡ Ok m → r ≡ Ok n → n ≡ m
counted r n m h k = same_ok (sym k ∙ h)

module _ (k : StatusKind) (b codes value : List ℕ) where
  judged_by_lem : (x : Result (Truth × Truth) Refusal) → eval_and_truth_answer b codes value ≡ x → judged_lines k b (tree_at b 0) codes value ≡ map_ok (λ both. tree_lines k (tree_at b 0) value both.0 both.1) x
  unfolding judged_lines
  judged_by_lem x h = ap (map_ok (λ both. tree_lines k (tree_at b 0) value both.0 both.1)) h

  -- a refusal by the tree
  pub judged_refused : (why : Refusal) → eval_and_truth_answer b codes value ≡ Err why → line "refused " (figures (number_of why)) ≡ shown (judged_lines k b (tree_at b 0) codes value)
  unfolding map_ok
  judged_refused why h = sym (ap shown (judged_by_lem (Err why) h))

  -- both truths
  pub judged_done : (p f : Truth) → eval_and_truth_answer b codes value ≡ Ok (p, f) → tree_lines k (tree_at b 0) value p f ≡ shown (judged_lines k b (tree_at b 0) codes value)
  unfolding map_ok
  judged_done p f h = sym (ap shown (judged_by_lem (Ok (p, f)) h))

-- more letters than there can be citations: 16
pub too_many : (b answers value : List ℕ) → is_tree b ≡ true → citation_limit < length answers → eval_and_truth_answer b (answer_bytes answers) value ≡ Err WrongAnswers
too_many b answers value h l =
    let r = root b h in
    let unfit = sym (fit_count b (answer_bytes answers) h (λ q. omega (arith, q, l, answers_length answers, r.counts, r.fits.few))) in
    sym (both_refused b (answer_bytes answers) value h (Err WrongAnswers) (presence_unfit (answer_bytes answers) value (tree_at b 0) unfit) WrongAnswers refl)

module _ (s a v old new : List ℕ) (o : Result StatusSaid Refusal) (room : tree_limit ≤ length old) (f : o ≡ answer_of (status_answer s) (length old)) (g : new ≡ written_of (status_answer s) old) where
  -- the answer and the lines, by what the status reads as
  abbrev Meets : Result Stated Refusal → Type 0
  Meets (Err j) = (o ≡ Err j) × (lines s a v ≡ line "refused " (figures (number_of j)))
  Meets (Ok (alone k)) = (o ≡ Ok (k, None)) × (lines s a v ≡ alone_lines k)
  Meets (Ok (stated k e)) =
      (o ≡ Ok (k, Some (length (bytes_of e)))) × (new ≡ bytes_of e ++ drop (length (bytes_of e)) old) × Fits e × (lines s a v ≡ shown (judged_lines k (bytes_of e) e (answer_bytes a) v))

  lines_by : (x : Result Stated Refusal) → status_reading s ≡ x → lines s a v ≡ shown (then x (λ t. stated_lines t a v))
  unfolding lines
  lines_by x q = ap (λ y. shown (then y (λ t. stated_lines t a v))) q

  answer_by : (x : Result Stated Refusal) → status_reading s ≡ x → status_answer s ≡ map_ok stated_bytes x
  unfolding status_answer
  answer_by x q = ap (map_ok stated_bytes) q

  meets : (x : Result Stated Refusal) → status_reading s ≡ x → Meets x
  unfolding map_ok then stated_lines answer_of
  meets (Err j) q = (f ∙ ap (λ y. answer_of y (length old)) (answer_by (Err j) q), lines_by (Err j) q)
  meets (Ok (alone k)) q =
      let r = settled (status_answer s) (stated_bytes (alone k)) old new o (answer_by (Ok (alone k)) q) (omega arith) f g in
      (r.0, lines_by (Ok (alone k)) q)
  meets (Ok (stated k e)) q =
      let fit = status_fits s k e q in
      let r = settled (status_answer s) (stated_bytes (stated k e)) old new o (answer_by (Ok (stated k e)) q) (omega (arith, few_bytes e fit)) f g in
      (r.0, r.1, fit, lines_by (Ok (stated k e)) q)

  -- a status that is turned back
  pub status_refused : (why : Refusal) → o ≡ Err why → line "refused " (figures (number_of why)) ≡ lines s a v
  status_refused why e = by (status_reading s) refl
    where
      by : (x : Result Stated Refusal) → status_reading s ≡ x → line "refused " (figures (number_of why)) ≡ lines s a v
      by (Err j) q = let m = meets (Err j) q in ap (λ (n : ℕ). line "refused " (figures n)) (same_number (sym e ∙ m.0)) ∙ sym m.1
      by (Ok (alone k)) q = absurd (err≢ok (sym e ∙ (meets (Ok (alone k)) q).0))
      by (Ok (stated k t)) q = absurd (err≢ok (sym e ∙ (meets (Ok (stated k t)) q).0))

  -- a word alone
  pub status_alone : (k : StatusKind) → o ≡ Ok (k, None) → alone_lines k ≡ lines s a v
  status_alone k e = by (status_reading s) refl
    where
      by : (x : Result Stated Refusal) → status_reading s ≡ x → alone_lines k ≡ lines s a v
      by (Err j) q = absurd (err≢ok (sym (meets (Err j) q).0 ∙ e))
      by (Ok (alone j)) q =
          let m = meets (Ok (alone j)) q in
          let w : ◌≡◌ {A = StatusSaid} (k, None) (j, None) = same_ok (sym e ∙ m.0) in
          let same : k ≡ j = ap (λ (x : StatusSaid). x.0) w in
          ap alone_lines same ∙ sym m.1
      by (Ok (stated j t)) q =
          let w : ◌≡◌ {A = StatusSaid} (k, None) (j, Some (length (bytes_of t))) = same_ok (sym e ∙ (meets (Ok (stated j t)) q).0) in
          let none : ◌≡◌ {A = Option ℕ} None (Some (length (bytes_of t))) = ap (λ (x : StatusSaid). x.1) w in
          let z : ◌≡◌ {A = ℕ} 0 1 = cc in
          absurd (omega arith)

  -- a word and a tree
  pub record Treed (k : StatusKind) (n : ℕ) : Type 0 where
    pub inside : n ≤ length new
    pub tree : is_tree (take n new) ≡ true
    pub says : shown (judged_lines k (take n new) (tree_at (take n new) 0) (answer_bytes a) v) ≡ lines s a v

  treed : (k : StatusKind) (e : Expr) (n : ℕ) → n ≡ length (bytes_of e) → new ≡ bytes_of e ++ drop (length (bytes_of e)) old → Fits e → lines s a v ≡ shown (judged_lines k (bytes_of e) e (answer_bytes a) v) → Treed k n
  treed k e n h i fit l =
      let b = bytes_of e in
      let t = is_tree_lem e fit in
      let is : take n new ≡ b = front new b (drop (length b) old) n i h in
      let at0 : tree_at b 0 ≡ e = same_ok (sym (root b t).is ∙ tree_of_bytes e fit) in
      record {
        inside = omega (arith, h, ap length i, length-append b (drop (length b) old));
        tree = ap is_tree is ∙ t;
        says = ap (λ x. shown (judged_lines k x (tree_at x 0) (answer_bytes a) v)) is ∙ ap (λ x. shown (judged_lines k b x (answer_bytes a) v)) at0 ∙ sym l;
      }

  pub status_tree : (k : StatusKind) (n : ℕ) → o ≡ Ok (k, Some n) → Treed k n
  status_tree k n e = by (status_reading s) refl
    where
      by : (x : Result Stated Refusal) → status_reading s ≡ x → Treed k n
      by (Err j) q = absurd (err≢ok (sym (meets (Err j) q).0 ∙ e))
      by (Ok (alone j)) q =
          let w : ◌≡◌ {A = StatusSaid} (k, Some n) (j, None) = same_ok (sym e ∙ (meets (Ok (alone j)) q).0) in
          let none : ◌≡◌ {A = Option ℕ} (Some n) None = ap (λ (x : StatusSaid). x.1) w in
          let z : ◌≡◌ {A = ℕ} 0 1 = cc in
          absurd (omega arith)
      by (Ok (stated j t)) q =
          let m = meets (Ok (stated j t)) q in
          let w : ◌≡◌ {A = StatusSaid} (k, Some n) (j, Some (length (bytes_of t))) = same_ok (sym e ∙ m.0) in
          let kind : j ≡ k = ap (λ (x : StatusSaid). x.0) (sym w) in
          let some : ◌≡◌ {A = Option ℕ} (Some n) (Some (length (bytes_of t))) = ap (λ (x : StatusSaid). x.1) w in
          let size : n ≡ length (bytes_of t) = cc in
          subst (λ x. Treed x n) kind (treed j t n size m.1 m.2 m.3)

module _ (s a v : List ℕ) (out : List ℕ) {n : ℕ} {old new : List ℕ} (w : Appended (lines s a v) 0 old new n) where
  report_is : report_answer s a v ≡ Ok (with_length (lines s a v))
  unfolding report_answer
  report_is = refl

  -- 14
  pub report_short : length out < n → record { result_value : Err NoRoom ≡ answer_of (report_answer s a v) (length out); out_after : out ≡ written_of (report_answer s a v) out }
  report_short h =
      let l = with_length (lines s a v) in
      let short : length out < length (lines s a v) = omega (arith, h, w.ends) in
      record {
        result_value = sym (ap (λ x. answer_of x (length out)) report_is ∙ answer_short l (length out) short);
        out_after = sym (ap (λ x. written_of x out) report_is ∙ written_short l out short);
      }

  -- the lines
  pub report_done : {q : ℕ} {after : List ℕ} → n ≤ length out → Appended (take n new) 0 out after q → record { result_value : Ok n ≡ answer_of (report_answer s a v) (length out); out_after : after ≡ written_of (report_answer s a v) out }
  report_done {q} {after} h p =
      let l = with_length (lines s a v) in
      let size : n ≡ length (lines s a v) = omega (arith, w.ends) in
      let room : length (lines s a v) ≤ length out = omega (arith, h, size) in
      record {
        result_value = ap Ok size ∙ sym (ap (λ x. answer_of x (length out)) report_is ∙ answer_fits l (length out) room);
        out_after = whole (same w.has p) ∙ sym (ap (λ x. written_of x out) report_is ∙ written_fits l out room);
      }
