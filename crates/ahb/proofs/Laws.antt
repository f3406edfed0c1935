-- An answer's number and the lent bytes, those of reading by its mode. Assumes nothing.
use Rattle.std.specs.Prelude.{Result, Ok, Err, MatchResult}
use mathlib.Core.Path.{◌≡◌, refl, sym, ap, subst, ◌∙◌}
use mathlib.Core.List.{List}
use mathlib.Core.Bool.{Bool, true, false}
use Prim.Native.Nat.{ℕ, ◌+◌}
use native.Mathlib.Omega.{arith}
use lib.Dec.{leb}
use lib.ListN.{length}
use borrow.Author.Tests.{eq-eqb, ne_eqb}
use Rattle.refusal.specs.declared.Refusal.{Refusal}
use Rattle.refusal.specs.Refusals.{number_of}
use Rattle.refusal.specs.Known.{Among}
use Rattle.refusal.specs.Result.{unless, then, map_ok}
use Rattle.refusal.specs.declared.Refusal.TheVariants.{NoRoom}
use Rattle.grammar.specs.Outcome.{Outcome, answer_of, written_of, StatusSaid, parse_answer, status_answer}
use Rattle.ahb.specs.Numbers.{accepted_from, answer_number, expression, status, expression_number, status_number, said_number, read_number}
use Rattle.ahb.specs.Answers.{said_by, read_answer}

-- the number of what was accepted, and a refusal's own, are the answer's
pub answered : {A : Type 0} (least : ℕ) (number : A → ℕ) (P : A → Type 0) (r : ℕ) (a : Result A Refusal)
    → ((x : A) → P x → r ≡ least + number x) → MatchResult a P (λ why. r ≡ number_of why) → r ≡ answer_number least number a
answered least number P r (Ok x) f h = f x h
answered least number P r (Err why) f h = h

-- what is accepted among answers of a kind is of that kind
pub accepted_among : {A : Type 0} (P : A → Type 0) (a : Result A Refusal) → Among P a → (x : A) → a ≡ Ok x → P x
accepted_among P (Ok y) h x e = let q : y ≡ x = cc in subst P q h
accepted_among P (Err why) h x e = let z : ◌≡◌ {A = ℕ} 0 1 = cc in absurd (omega arith)

module _ {A B : Type 0} (f : A → B) where
  -- what is said otherwise has the number of what it says
  said_number_lem : (least : ℕ) (number : B → ℕ) (r : Outcome A) (n : ℕ)
      → answer_number least number (answer_of (map_ok (said_by f) r) n) ≡ answer_number least (λ a. number (f a)) (answer_of r n)
  unfolding answer_of map_ok then
  said_number_lem least number (Ok w) n = by (leb (length w.bytes) n)
    where
      by : (t : Bool) → answer_number least number (unless t NoRoom (Ok (f w.answer))) ≡ answer_number least (λ a. number (f a)) (unless t NoRoom (Ok w.answer))
      by true = refl
      by false = refl
  said_number_lem least number (Err k) n = refl

  -- and the same bytes
  pub said_written : (r : Outcome A) (old : List ℕ) → written_of (map_ok (said_by f) r) old ≡ written_of r old
  unfolding written_of map_ok
  said_written (Ok w) old = refl
  said_written (Err k) old = refl

module _ (mode : ℕ) (s old new : List ℕ) (r : ℕ) where
  -- an expression
  pub read-expression : (a : Result ℕ Refusal) → mode ≡ 0 → r ≡ answer_number accepted_from expression_number a → a ≡ answer_of (parse_answer s) (length old) → new ≡ written_of (parse_answer s) old
      → record { value : r ≡ read_number (answer_of (read_answer mode s) (length old)); out_after : new ≡ written_of (read_answer mode s) old }
  unfolding read_answer
  read-expression a m e h w =
      rw (eq-eqb mode 0 m) record {
        value = e ∙ ap (λ x. answer_number accepted_from expression_number x) h ∙ sym (said_number_lem expression accepted_from said_number (parse_answer s) (length old));
        out_after = w ∙ sym (said_written expression (parse_answer s) old);
      }

  -- a status
  pub read_status : (a : Result StatusSaid Refusal) → (mode ≡ 0 → ⊥) → r ≡ answer_number accepted_from status_number a → a ≡ answer_of (status_answer s) (length old) → new ≡ written_of (status_answer s) old
      → record { value : r ≡ read_number (answer_of (read_answer mode s) (length old)); out_after : new ≡ written_of (read_answer mode s) old }
  unfolding read_answer
  read_status a m e h w =
      rw (ne_eqb mode 0 m) record {
        value = e ∙ ap (λ x. answer_number accepted_from status_number x) h ∙ sym (said_number_lem status accepted_from said_number (status_answer s) (length old));
        out_after = w ∙ sym (said_written status (status_answer s) old);
      }
