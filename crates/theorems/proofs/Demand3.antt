-- Demand 3, for every tree that the test accepts, at the bytes that the public functions take and write. Assumes nothing.
use Rattle.std.specs.Prelude.{◌≡◌, refl, List, true, ◌↔◌, ℕ, ◌≤◌, length, take, Result, Ok, Err, Some, None, Option}
use Rattle.std.proofs.Common.{sym, ap, ◌∙◌, subst, arith}
use Rattle.refusal.specs.declared.Refusal.{Refusal}
use Rattle.refusal.specs.Result.{then, map_ok, err≢ok}
use Rattle.status.specs.declared.StatusKind.{StatusKind}
use Rattle.grammar.specs.Expr.{Expr}
use Rattle.grammar.specs.Print.{in_bytes, printed}
use Rattle.grammar.specs.Flat.{flat}
use Rattle.grammar.proofs.Flat.{print_flat}
use Rattle.grammar.specs.Reading.{reading, Fits}
use Rattle.grammar.specs.Status.{Stated, alone, stated, status_reading}
use Rattle.grammar.specs.Bytes.{bytes_of, is_tree, tree_of}
use Rattle.grammar.specs.Pack.{IsBytes}
use Rattle.grammar.specs.Trees.{IsTree}
use Rattle.grammar.proofs.Trees as trees
use Rattle.grammar.proofs.Theorems as grammar
use Rattle.grammar.proofs.Theorems.{read_fits, status_fits, flat_fits, tree_of_bytes, is_tree_lem}
use Rattle.semantics.specs.Presence.{oracle_of}
use Rattle.grammar.specs.Outcome.{Written, Outcome, answer_of, written_of, with_length, parse_answer, display_answer, StatusSaid, with_status, stated_bytes, status_answer, accepted}
use Rattle.grammar.proofs.Outcome.{answer_fits, written_fits, answer_short, written_short, written_back}
use Rattle.semantics.specs.Truth.{counts_on}
use Rattle.semantics.specs.Answers.{eval_answer, verdicts_answer, eval_and_truth_answer, pakete_answer}
use Rattle.semantics.proofs.Flat as flats
use Rattle.theorems.specs.Demand3.{flat_tree, Writes, print_in, PrintReads, AnswersAlike, SameIn, Promised}

-- Trees: what the test accepts, and what reading writes.

-- byte strings are trees exactly if the test accepts them
pub tree_tested : (t : List ℕ) → IsBytes t → (is_tree t ≡ true) ↔ IsTree t
tree_tested t i = (trees.tested t i, λ h. ap is_tree h.is ∙ is_tree_lem h.expr h.fits)

-- what `Expr::parse` writes is the bytes of an expression that fits
pub parse-read : (s : List ℕ) (w : Written ℕ) → parse_answer s ≡ Ok w → (e : Expr) × Fits e × (w ≡ with_length (bytes_of e))
unfolding parse_answer map_ok
parse-read s w h = go (reading s) refl h
  where
    go : (r : Result Expr Refusal) → reading s ≡ r → map_ok (λ e. with_length (bytes_of e)) r ≡ Ok w → (e : Expr) × Fits e × (w ≡ with_length (bytes_of e))
    go (Ok e) q k = let same : with_length (bytes_of e) ≡ w = cc in (e, read_fits s e q, sym same)
    go (Err n) q k = absurd (err≢ok k)

-- and so is what `Status::parse` writes after a word
pub status_read : (s : List ℕ) (k : StatusKind) (n : ℕ) (b : List ℕ) → status_answer s ≡ Ok (record { answer = (k, Some n); bytes = b })
    → (e : Expr) × Fits e × (n ≡ length (bytes_of e)) × (b ≡ bytes_of e)
unfolding status_answer map_ok
status_read s k n b h = go (status_reading s) refl h
  where
    go : (r : Result Stated Refusal) → status_reading s ≡ r → map_ok stated_bytes r ≡ Ok (record { answer = (k, Some n); bytes = b })
        → (e : Expr) × Fits e × (n ≡ length (bytes_of e)) × (b ≡ bytes_of e)
    go (Ok (stated j e)) q p =
        let same : with_status j (bytes_of e) ≡ record { answer = (k, Some n); bytes = b } = cc in
        let said : ◌≡◌ {A = StatusSaid} (j, Some (length (bytes_of e))) (k, Some n) = ap (λ w. w.answer) same in
        let some : ◌≡◌ {A = Option ℕ} (Some (length (bytes_of e))) (Some n) = ap (λ (x : StatusSaid). x.1) said in
        let size : length (bytes_of e) ≡ n = cc in
        (e, status_fits s j e q, sym size, sym (ap (λ w. w.bytes) same))
    go (Ok (alone j)) q p =
        let same : stated_bytes (alone j) ≡ record { answer = (k, Some n); bytes = b } = cc in
        let said : ◌≡◌ {A = StatusSaid} (j, None) (k, Some n) = ap (λ w. w.answer) same in
        let none : ◌≡◌ {A = Option ℕ} None (Some n) = ap (λ (x : StatusSaid). x.1) said in
        let z : ◌≡◌ {A = ℕ} 0 1 = cc in
        absurd (omega arith)
    go (Err m) q p = absurd (err≢ok p)

-- after an accepted `Expr::parse` so many bytes of the buffer are a tree
pub expression_tree : (s buffer : List ℕ) (n : ℕ) → answer_of (parse_answer s) (length buffer) ≡ Ok n → IsTree (take n (written_of (parse_answer s) buffer))
expression_tree s buffer n h =
    let a = accepted (parse_answer s) (length buffer) n h in
    let r = parse-read s (record { answer = n; bytes = a.bytes }) a.came in
    let e = r.0 in
    let size : n ≡ length (bytes_of e) = ap (λ w. w.answer) r.2 in
    let same : a.bytes ≡ bytes_of e = ap (λ w. w.bytes) r.2 in
    let room : length (bytes_of e) ≤ length buffer = omega (arith, ap length same, a.room) in
    let came : parse_answer s ≡ Ok (with_length (bytes_of e)) = a.came ∙ ap Ok r.2 in
    record {
      expr = e;
      fits = r.1;
      is = ap (λ (i : ℕ). take i (written_of (parse_answer s) buffer)) size ∙ ap (λ o. take (length (bytes_of e)) (written_of o buffer)) came ∙ written_back (with_length (bytes_of e)) buffer room;
    }

-- and so they are after a `Status::parse` that said a length
pub status_tree : (s buffer : List ℕ) (k : StatusKind) (n : ℕ) → answer_of (status_answer s) (length buffer) ≡ Ok (k, Some n) → IsTree (take n (written_of (status_answer s) buffer))
status_tree s buffer k n h =
    let a = accepted (status_answer s) (length buffer) (k, Some n) h in
    let r = status_read s k n a.bytes a.came in
    let e = r.0 in
    let size : n ≡ length (bytes_of e) = r.2 in
    let same : a.bytes ≡ bytes_of e = r.3 in
    let room : length (bytes_of e) ≤ length buffer = omega (arith, ap length same, a.room) in
    let said : (k, Some n) ≡ (k, Some (length (bytes_of e))) = ap (λ n. (k, Some n)) size in
    let w : Written StatusSaid = with_status k (bytes_of e) in
    let came : status_answer s ≡ Ok w = a.came ∙ ap (λ (x : StatusSaid). Ok (record { answer = x; bytes = a.bytes })) said ∙ ap (λ (x : List ℕ). Ok (record { answer = (k, Some (length (bytes_of e))); bytes = x })) same in
    record {
      expr = e;
      fits = r.1;
      is = ap (λ (i : ℕ). take i (written_of (status_answer s) buffer)) size ∙ ap (λ o. take (length (bytes_of e)) (written_of o buffer)) came ∙ written_back w buffer room;
    }

-- by its outcome
pub writes : (o : Outcome ℕ) (b : List ℕ) → o ≡ Ok (with_length b) → Writes o b
writes o b h = record {
  answer = λ buffer l. ap (λ x. answer_of x (length buffer)) h ∙ answer_fits (with_length b) (length buffer) l;
  bytes = λ buffer l. ap (λ x. written_of x buffer) h ∙ written_fits (with_length b) buffer l;
  short = λ buffer l. ap (λ x. answer_of x (length buffer)) h ∙ answer_short (with_length b) (length buffer) l;
  kept = λ buffer l. ap (λ x. written_of x buffer) h ∙ written_short (with_length b) buffer l;
}

module _ (e : Expr) (f : Fits e) where
  shown_is : display_answer (bytes_of e) ≡ Ok (with_length (printed e))
  unfolding display_answer map_ok
  shown_is = rw (tree_of_bytes e f)

  again_is : parse_answer (printed e) ≡ Ok (with_length (bytes_of (flat e)))
  unfolding parse_answer map_ok
  again_is = rw (grammar.read-printed e f)

  print_in_lem : (buffer : List ℕ) → length (printed e) ≤ length buffer → print_in e buffer ≡ printed e
  print_in_lem buffer h = ap (λ o. take (length (printed e)) (written_of o buffer)) shown_is ∙ written_back (with_length (printed e)) buffer h

-- the print of an expression that fits reads as its flat tree
pub read-printed : (e : Expr) → Fits e → PrintReads e
read-printed e f = record {
  shown = writes _ (printed e) (shown_is e f);
  again = λ buffer h. writes _ (bytes_of (flat e)) (ap parse_answer (print_in_lem e f buffer h) ∙ again_is e f);
}

-- two expressions that fit print alike exactly when the bytes of their flat trees are alike
pub printed_alike : (a b : Expr) → Fits a → Fits b
    → (display_answer (bytes_of a) ≡ display_answer (bytes_of b)) ↔ (bytes_of (flat a) ≡ bytes_of (flat b))
printed_alike a b fa fb =
    let shown_a = shown_is a fa in
    let shown_b = shown_is b fb in
    let same = grammar.printed_alike a b fa fb in (
      λ h. let ends : Ok (with_length (printed a)) ≡ Ok (with_length (printed b)) = sym shown_a ∙ h ∙ shown_b in
          let one : with_length (printed a) ≡ with_length (printed b) = cc in
          same.0 (ap (λ x. x.bytes) one),
      λ h. shown_a ∙ ap (λ p. Ok (with_length p)) (same.1 h) ∙ sym shown_b,
    )

module _ {A : Type 0} (o p : Outcome A) (h : o ≡ p) (x y : List ℕ) (l : length x ≡ length y) where
  -- outcomes that are alike
  pub same_outcome : SameIn o p x y
  same_outcome =
      let said : answer_of o (length x) ≡ answer_of p (length y) = ap (λ q. answer_of q (length x)) h ∙ ap (answer_of p) l in
      record {
        answer = said;
        bytes = λ a q.
            let k = accepted o (length x) a q in
            let w : Written A = record { answer = a; bytes = k.bytes } in
            let room : length k.bytes ≤ length y = omega (arith, l, k.room) in (
              k.bytes,
              ap (λ r. written_of r x) k.came ∙ written_fits w x k.room,
              ap (λ r. written_of r y) (sym h ∙ k.came) ∙ written_fits w y room,
            );
      }

module _ (e : Expr) (f : Fits e) where
  flat_is : tree_of (bytes_of (flat e)) ≡ Ok (flat e)
  flat_is = tree_of_bytes (flat e) (flat_fits e f)

  tree_is : tree_of (bytes_of e) ≡ Ok e
  tree_is = tree_of_bytes e f

  eval_flat : (answers : List ℕ) → eval_answer (bytes_of (flat e)) answers ≡ eval_answer (bytes_of e) answers
  unfolding eval_answer then
  eval_flat answers = rw (flat_is, tree_is, flats.fit_flat e answers, flats.presence_flat (oracle_of answers) 0 e)

  verdicts_flat : (value : List ℕ) → verdicts_answer (bytes_of (flat e)) value ≡ verdicts_answer (bytes_of e) value
  unfolding verdicts_answer then
  verdicts_flat value = rw (flat_is, tree_is, flats.truth_flat (counts_on value) 0 e, flats.violations_flat (counts_on value) 0 e)

  both_flat : (answers value : List ℕ) → eval_and_truth_answer (bytes_of (flat e)) answers value ≡ eval_and_truth_answer (bytes_of e) answers value
  unfolding eval_and_truth_answer then
  both_flat answers value =
      rw (flat_is, tree_is, flats.fit_flat e answers, flats.truth_flat (counts_on value) 0 e, flats.presence_flat (oracle_of answers) 0 e)

  pakete_flat : pakete_answer (bytes_of (flat e)) ≡ pakete_answer (bytes_of e)
  unfolding pakete_answer map_ok
  pakete_flat = rw (flat_is, tree_is, flats.pakete_flat e)

  -- the flat tree answers as the tree does
  pub flat_agrees : AnswersAlike (bytes_of (flat e)) (bytes_of e)
  flat_agrees = record {
    eval = eval_flat;
    pakete = pakete_flat;
    verdicts = verdicts_flat;
    eval_and_truth = both_flat;
  }

  flat_of : flat_tree (bytes_of e) ≡ Ok (bytes_of (flat e))
  unfolding flat_tree map_ok
  flat_of = rw tree_is

  flat_shown : display_answer (bytes_of (flat e)) ≡ display_answer (bytes_of e)
  unfolding display_answer map_ok
  flat_shown = rw (flat_is, tree_is, print_flat in_bytes e f.wide)

  reads_again : (buffer : List ℕ) (n : ℕ) → answer_of (display_answer (bytes_of e)) (length buffer) ≡ Ok n
      → Writes (parse_answer (take n (written_of (display_answer (bytes_of e)) buffer))) (bytes_of (flat e))
  reads_again buffer n h =
      let a = accepted (display_answer (bytes_of e)) (length buffer) n h in
      let one : Ok (with_length (printed e)) ≡ Ok (record { answer = n; bytes = a.bytes }) = sym (shown_is e f) ∙ a.came in
      let same : with_length (printed e) ≡ record { answer = n; bytes = a.bytes } = cc in
      let size : length (printed e) ≡ n = ap (λ x. x.answer) same in
      let room : length (printed e) ≤ length buffer = omega (arith, ap (λ x. length x.bytes) same, a.room) in
      subst (λ (i : ℕ). Writes (parse_answer (take i (written_of (display_answer (bytes_of e)) buffer))) (bytes_of (flat e))) size ((read-printed e f).again buffer room)

  promised_of : Promised (bytes_of e)
  promised_of = record {
    flat_bytes = bytes_of (flat e);
    print = printed e;
    is_flat = flat_of;
    shown = (read-printed e f).shown;
    again = reads_again;
    alike = flat_agrees;
    shown_alike = flat_shown;
  }

-- For every tree, that is, all that the test accepts (`tree_tested`): read, or made by hand.

module _ (t : List ℕ) (h : IsTree t) where
  -- a tree keeps the promise
  pub promised : Promised t
  promised = subst Promised (sym h.is) (promised_of h.expr h.fits)

  -- the flat tree of a tree, by its expression
  flat_of_tree : flat_tree t ≡ Ok (bytes_of (flat h.expr))
  flat_of_tree = ap flat_tree h.is ∙ flat_of h.expr h.fits

  -- its print likewise
  print_of_tree : display_answer t ≡ Ok (with_length (printed h.expr))
  print_of_tree = ap display_answer h.is ∙ shown_is h.expr h.fits

-- two trees print alike exactly when their flat trees are alike
pub trees_alike : (a b : List ℕ) → IsTree a → IsTree b → (display_answer a ≡ display_answer b) ↔ (flat_tree a ≡ flat_tree b)
trees_alike a b k l =
    let same = printed_alike k.expr l.expr k.fits l.fits in
    let fa = flat_of_tree a k in
    let fb = flat_of_tree b l in (
      λ q. fa ∙ ap Ok (same.0 (sym (ap display_answer k.is) ∙ q ∙ ap display_answer l.is)) ∙ sym fb,
      λ q. let one : Ok (bytes_of (flat k.expr)) ≡ Ok (bytes_of (flat l.expr)) = sym fa ∙ q ∙ fb in
          let two : bytes_of (flat k.expr) ≡ bytes_of (flat l.expr) = cc in
          ap display_answer k.is ∙ same.1 two ∙ sym (ap display_answer l.is),
    )

-- a print on file reads as the flat tree of its tree. How that tree came about is not asked: so this holds of older prints too, from when a group
-- in front merged, if what was filed then was the print of a tree; that the former reading wrote trees is not proved here
pub filed_print : (t p : List ℕ) → IsTree t → display_answer t ≡ Ok (with_length p) → (f : List ℕ) × (flat_tree t ≡ Ok f) × (parse_answer p ≡ Ok (with_length f))
filed_print t p k q =
    let one : Ok (with_length p) ≡ Ok (with_length (printed k.expr)) = sym q ∙ print_of_tree t k in
    let same : with_length p ≡ with_length (printed k.expr) = cc in
    (bytes_of (flat k.expr), flat_of_tree t k, ap (λ x. parse_answer x.bytes) same ∙ again_is k.expr k.fits)

-- up to flattening the trees that `Expr::parse` writes are all trees: they have the same flat trees
pub read_or_made : (f : List ℕ) → ((t : List ℕ) × IsTree t × (flat_tree t ≡ Ok f)) ↔ ((s t : List ℕ) × (parse_answer s ≡ Ok (with_length t)) × (flat_tree t ≡ Ok f))
read_or_made f = (made, read)
  where
    made : (t : List ℕ) × IsTree t × (flat_tree t ≡ Ok f) → (s t : List ℕ) × (parse_answer s ≡ Ok (with_length t)) × (flat_tree t ≡ Ok f)
    made (t, h, q) =
        let e = h.expr in
        let again : flat_tree (bytes_of (flat e)) ≡ Ok (bytes_of (flat e)) = flat_of (flat e) (flat_fits e h.fits) ∙ ap (λ x. Ok (bytes_of x)) (grammar.flat_again e h.fits) in
        (printed e, bytes_of (flat e), again_is e h.fits, again ∙ sym (flat_of_tree t h) ∙ q)

    read : (s t : List ℕ) × (parse_answer s ≡ Ok (with_length t)) × (flat_tree t ≡ Ok f) → (t : List ℕ) × IsTree t × (flat_tree t ≡ Ok f)
    read (s, t, h, q) =
        let r = parse-read s (with_length t) h in
        (t, record { expr = r.0; fits = r.1; is = ap (λ w. w.bytes) r.2 }, q)
