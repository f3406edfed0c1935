-- Demand 3 for the gateway: in the numbers of the three functions for C and Rust. Assumes nothing.
use Rattle.std.specs.Prelude.{◌≡◌, List, Bool, cond, ℕ, ◌+◌, ◌<◌, leb, eqb, length, take, Result, Ok, Err, Some, None}
use Rattle.std.proofs.Math.Path.{refl}
use Rattle.std.proofs.Common.{sym, ap, ◌∙◌, subst, arith}
use Rattle.std.proofs.Math.Bool.{true, false}
use Rattle.refusal.specs.declared.Refusal.{Refusal}
use Rattle.refusal.specs.Result.{unless, then, map_ok, err≢ok}
use Rattle.refusal.specs.Known.{Among, named_most}
use Rattle.refusal.specs.declared.Refusal.TheVariants.{NoRoom}
use Rattle.grammar.specs.Outcome.{Outcome, answer_of, written_of, parse_answer, status_answer, StatusSaid}
use Rattle.ahb.specs.Numbers.{accepted_from, code_step, coded, ReadSaid, expression, status, read_number, presence_number, verdicts_number}
use Rattle.ahb.specs.Answers.{said_by, read_answer}
use Rattle.ahb.specs.Determined.{ShortSaid, read-among}
use Rattle.ahb.proofs.Laws.{said_written}
use Rattle.grammar.specs.Trees.{IsTree}
use Rattle.theorems.specs.Demand3.{flat_tree, AnswersAlike}
use Rattle.theorems.proofs.Demand3.{expression_tree, status_tree, promised}
use Rattle.theorems.specs.Gateway.{NumbersAlike}

module _ (a b : List ℕ) (h : AnswersAlike a b) where
  -- trees that answer alike have the same numbers
  pub numbers_alike : NumbersAlike a b
  numbers_alike = record {
    presence = λ answers. ap presence_number (h.eval answers);
    verdicts = λ value n. ap (λ o. verdicts_number (answer_of o n)) (h.verdicts value);
    list = λ value list. ap (λ o. written_of o list) (h.verdicts value);
  }

module _ {A B : Type 0} (f : A → B) where
  -- an answer said otherwise
  said_answer : (o : Outcome A) (n : ℕ) → answer_of (map_ok (said_by f) o) n ≡ map_ok f (answer_of o n)
  unfolding answer_of map_ok then
  said_answer (Ok w) n = by (leb (length w.bytes) n)
    where
      by : (t : Bool) → unless t NoRoom (Ok (f w.answer)) ≡ map_ok f (unless t NoRoom (Ok w.answer))
      by true = refl
      by false = refl
  said_answer (Err k) n = refl

  -- what an answer that is said otherwise was
  map-said : (r : Result A Refusal) (x : B) → map_ok f r ≡ Ok x → (a : A) × (r ≡ Ok a) × (f a ≡ x)
  unfolding map_ok
  map-said (Ok a) x h = let same : f a ≡ x = cc in (a, refl, same)
  map-said (Err k) x h = absurd (err≢ok h)

-- what was read has a tree of so many bytes
abbrev Sized : ReadSaid → ℕ → Type 0
Sized (expression m) n = m ≡ n
Sized (status (k, None)) n = ⊥
Sized (status (k, Some m)) n = m ≡ n

-- the length that a number says with a tree
sized : (code n : ℕ) (r : Result ReadSaid Refusal) → Among ShortSaid r → read_number r ≡ accepted_from + coded code n → 0 < n → n < code_step
    → (x : ReadSaid) × (r ≡ Ok x) × Sized x n
sized code n (Ok (expression m)) p h a b = (expression m, refl, omega (arith, h, a, b, p.0, p.1))
sized code n (Ok (status (k, None))) p h a b = absurd (omega (arith, h, a, b))
sized code n (Ok (status (k, Some m))) p h a b = (status (k, Some m), refl, omega (arith, h, a, b, p.0, p.1))
sized code n (Err j) p h a b = absurd (omega (arith, h, named_most p.0, p.1))

module _ (s buffer : List ℕ) (n : ℕ) where
  expression_kept : (x : ReadSaid) → Sized x n → answer_of (map_ok (said_by expression) (parse_answer s)) (length buffer) ≡ Ok x
      → IsTree (take n (written_of (map_ok (said_by expression) (parse_answer s)) buffer))
  expression_kept x z h =
      let m = map-said expression (answer_of (parse_answer s) (length buffer)) x (sym (said_answer expression (parse_answer s) (length buffer)) ∙ h) in
      let y : Sized (expression m.0) n = subst (λ u. Sized u n) (sym m.2) z in
      subst (λ b. IsTree (take n b)) (sym (said_written expression (parse_answer s) buffer)) (expression_tree s buffer n (m.1 ∙ ap Ok y))

  status_kept : (x : ReadSaid) → Sized x n → answer_of (map_ok (said_by status) (status_answer s)) (length buffer) ≡ Ok x
      → IsTree (take n (written_of (map_ok (said_by status) (status_answer s)) buffer))
  status_kept x z h =
      let m = map-said status (answer_of (status_answer s) (length buffer)) x (sym (said_answer status (status_answer s) (length buffer)) ∙ h) in
      subst (λ b. IsTree (take n b)) (sym (said_written status (status_answer s) buffer)) (go m.0 m.1 (subst (λ u. Sized u n) (sym m.2) z))
    where
      go : (y : StatusSaid) → answer_of (status_answer s) (length buffer) ≡ Ok y → Sized (status y) n → IsTree (take n (written_of (status_answer s) buffer))
      go (k, None) q z = absurd z
      go (k, Some i) q z = status_tree s buffer k n (q ∙ ap (λ (j : ℕ). Ok (k, Some j)) z)

-- a number of `ahb_read` that says a tree's length: so many bytes of the buffer are a tree
pub gateway_tree : (mode : ℕ) (s buffer : List ℕ) (code n : ℕ) → read_number (answer_of (read_answer mode s) (length buffer)) ≡ accepted_from + coded code n
    → 0 < n → n < code_step → IsTree (take n (written_of (read_answer mode s) buffer))
unfolding read_answer
gateway_tree mode s buffer code n h a b =
    let z = sized code n (answer_of (read_answer mode s) (length buffer)) (read-among mode s (length buffer)) h a b in
    go (eqb mode 0) z.0 z.2 z.1
  where
    go : (t : Bool) (x : ReadSaid) → Sized x n
        → answer_of (cond t (map_ok (said_by expression) (parse_answer s)) (map_ok (said_by status) (status_answer s))) (length buffer) ≡ Ok x
        → IsTree (take n (written_of (cond t (map_ok (said_by expression) (parse_answer s)) (map_ok (said_by status) (status_answer s))) buffer))
    go true x z q = expression_kept s buffer n x z q
    go false x z q = status_kept s buffer n x z q

-- so demand 3 in the gateway's terms: of what `ahb_read` wrote, the flat tree has the same numbers
pub gateway_alike : (mode : ℕ) (s buffer : List ℕ) (code n : ℕ) → read_number (answer_of (read_answer mode s) (length buffer)) ≡ accepted_from + coded code n
    → 0 < n → n < code_step → (f : List ℕ) × (flat_tree (take n (written_of (read_answer mode s) buffer)) ≡ Ok f) × NumbersAlike f (take n (written_of (read_answer mode s) buffer))
gateway_alike mode s buffer code n h a b =
    let t = take n (written_of (read_answer mode s) buffer) in
    let p = promised t (gateway_tree mode s buffer code n h a b) in
    (p.flat_bytes, p.is_flat, numbers_alike p.flat_bytes t p.alike)
