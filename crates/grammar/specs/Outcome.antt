-- What a function that writes into a lent buffer answers, and the buffer's bytes afterwards. Assumes nothing.
use Rattle.std.specs.Prelude.{◌≡◌, List, [], ◌++◌, Bool, ℕ, ◌≤◌, leb, length, Result, Ok, Err, Option, Some, None}
use Rattle.std.proofs.Math.Path.{refl, ap}
use Rattle.std.proofs.Common.{sym}
use Rattle.std.proofs.Math.Bool.{true, false, cond}
use Rattle.std.proofs.Math.ListN.{drop}
use borrow.Author.Tests.{leb-true}
use Rattle.refusal.specs.declared.Refusal.{Refusal}
use Rattle.refusal.specs.Result.{unless, then, map_ok, err≢ok, unless_ok}
use Rattle.refusal.specs.declared.Refusal.TheVariants.{NoRoom}
use Rattle.status.specs.declared.StatusKind.{StatusKind}
use Rattle.grammar.specs.Print.{printed}
use Rattle.grammar.specs.Reading.{reading}
use Rattle.grammar.specs.Status.{Stated, alone, stated, status_reading}
use Rattle.grammar.specs.Bytes.{bytes_of, tree_of}

-- what is answered, and the bytes that are written
pub record Written (A : Type 0) : Type 0 where
  pub answer : A
  pub bytes : List ℕ

-- what a call comes to before the buffer is looked at
abbrev pub Outcome : Type 0 → Type 0
Outcome A = Result (Written A) Refusal

module _ {A : Type 0} where
  -- the answer for a buffer of n bytes: 14 comes last
  unfoldable pub answer_of : Outcome A → ℕ → Result A Refusal
  answer_of r n = then r (λ w. unless (leb (length w.bytes) n) NoRoom (Ok w.answer))

  -- the buffer afterwards: the old bytes on a refusal, else the result and then the old rest
  unfoldable pub written_of : Outcome A → List ℕ → List ℕ
  written_of (Ok w) old = cond (leb (length w.bytes) (length old)) (w.bytes ++ drop (length w.bytes) old) old
  written_of (Err k) old = old

-- bytes, answered with their length
abbrev pub with_length : List ℕ → Written ℕ
with_length b = record { answer = length b; bytes = b }

-- `Expr::parse`: the tree that a text reads as
unfoldable pub parse_answer : List ℕ → Outcome ℕ
parse_answer s = map_ok (λ e. with_length (bytes_of e)) (reading s)

-- `display`: the print of a tree
unfoldable pub display_answer : List ℕ → Outcome ℕ
display_answer tree = map_ok (λ e. with_length (printed e)) (tree_of tree)

-- what a status says beside the bytes: its word, and the tree's length if there is one
abbrev pub StatusSaid : Type 0
StatusSaid = StatusKind × Option ℕ

-- a status word and a tree
abbrev pub with_status : StatusKind → List ℕ → Written StatusSaid
with_status k b = record { answer = (k, Some (length b)); bytes = b }

-- what was stated, as answered and written
abbrev pub stated_bytes : Stated → Written StatusSaid
stated_bytes (alone k) = record { answer = (k, None); bytes = [] }
stated_bytes (stated k e) = with_status k (bytes_of e)

-- `Status::parse`: the word, and the tree after it
unfoldable pub status_answer : List ℕ → Outcome StatusSaid
status_answer s = map_ok stated_bytes (status_reading s)

module _ {A : Type 0} where
  -- what was accepted: the outcome with this answer and some bytes, for which there is room
  pub record Accepted (o : Outcome A) (n : ℕ) (a : A) : Type 0 where
    pub bytes : List ℕ
    pub came : o ≡ Ok (record { answer = a; bytes = bytes })
    pub room : length bytes ≤ n

  -- an accepted answer tells the outcome
  pub accepted : (o : Outcome A) (n : ℕ) (a : A) → answer_of o n ≡ Ok a → Accepted o n a
  unfolding answer_of then
  accepted (Ok w) n a h =
      let p = unless_ok (leb (length w.bytes) n) NoRoom (Ok w.answer) a h in
      let q : Ok w.answer ≡ Ok a = p.1 in
      let s : w.answer ≡ a = cc in
      record { bytes = w.bytes; came = ap (λ (x : A). Ok (record { answer = x; bytes = w.bytes })) s; room = leb-true (length w.bytes) n p.0 }
  accepted (Err k) n a h = absurd (err≢ok h)

  -- a refused call leaves the buffer as it was
  pub refused_keeps : (o : Outcome A) (old : List ℕ) (why : Refusal) → answer_of o (length old) ≡ Err why → written_of o old ≡ old
  unfolding answer_of written_of then
  refused_keeps (Err j) old why h = refl
  refused_keeps (Ok w) old why h = by (leb (length w.bytes) (length old)) h
    where
      by : (t : Bool) → unless t NoRoom (Ok w.answer) ≡ Err why → cond t (w.bytes ++ drop (length w.bytes) old) old ≡ old
      by true q = absurd (err≢ok (sym q))
      by false q = refl
