-- Demand 3, at the bytes that the public functions take and write: what is said. The theorems stand in proofs/Demand3. Assumes nothing.
use Rattle.std.specs.Prelude.{◌≡◌, List, ◌++◌, ℕ, ◌≤◌, ◌<◌, length, take, drop, Result, Ok, Err}
use Rattle.refusal.specs.declared.Refusal.{Refusal}
use Rattle.refusal.specs.Result.{map_ok}
use Rattle.refusal.specs.declared.Refusal.TheVariants.{NoRoom}
use Rattle.grammar.specs.Expr.{Expr}
use Rattle.grammar.specs.Print.{printed}
use Rattle.grammar.specs.Flat.{flat}
use Rattle.grammar.specs.Bytes.{bytes_of, tree_of}
use Rattle.grammar.specs.Outcome.{Outcome, answer_of, written_of, parse_answer, display_answer}
use Rattle.semantics.specs.Answers.{eval_answer, verdicts_answer, eval_and_truth_answer, pakete_answer}

-- the flat tree of tree bytes (a term of document 01), or 15
unfoldable pub flat_tree : List ℕ → Result (List ℕ) Refusal
flat_tree t = map_ok (λ e. bytes_of (flat e)) (tree_of t)

-- Reading the print.

-- a call that writes these bytes: their length and the old rest after them if the buffer holds them, else 14 and the old bytes
pub record Writes (o : Outcome ℕ) (b : List ℕ) : Type 0 where
  pub answer : (buffer : List ℕ) → length b ≤ length buffer → answer_of o (length buffer) ≡ Ok (length b)
  pub bytes : (buffer : List ℕ) → length b ≤ length buffer → written_of o buffer ≡ b ++ drop (length b) buffer
  pub short : (buffer : List ℕ) → length buffer < length b → answer_of o (length buffer) ≡ Err NoRoom
  pub kept : (buffer : List ℕ) → length buffer < length b → written_of o buffer ≡ buffer

-- the print that `display` leaves in its buffer
abbrev pub print_in : Expr → List ℕ → List ℕ
print_in e buffer = take (length (printed e)) (written_of (display_answer (bytes_of e)) buffer)

-- `display` writes the print, and `Expr::parse` on that print, in a buffer that holds it, writes the flat tree
pub record PrintReads (e : Expr) : Type 0 where
  pub shown : Writes (display_answer (bytes_of e)) (printed e)
  pub again : (buffer : List ℕ) → length (printed e) ≤ length buffer → Writes (parse_answer (print_in e buffer)) (bytes_of (flat e))

-- The flat tree answers alike.

-- what a tree and another answer alike, whatever the answer bytes and the value. Said of whole outcomes: so the answer or refusal, 14 among
-- them, is the same in buffers of equal length, and so are the bytes in front, whatever the buffers held (`same_outcome`)
pub record AnswersAlike (a b : List ℕ) : Type 0 where
  -- the presence answer or refusal, 16 among them
  pub eval : (answers : List ℕ) → eval_answer a answers ≡ eval_answer b answers
  -- the package rows, their count, or the refusal
  pub pakete : pakete_answer a ≡ pakete_answer b
  -- the format truth and the violations, their count and order, or the refusal
  pub verdicts : (value : List ℕ) → verdicts_answer a value ≡ verdicts_answer b value
  -- presence and format truth together
  pub eval_and_truth : (answers value : List ℕ) → eval_and_truth_answer a answers value ≡ eval_and_truth_answer b answers value

-- calls of one outcome, in two buffers of equal length: the same answer, and if it is accepted the same bytes before what each buffer held
pub record SameIn {A : Type 0} (o p : Outcome A) (x y : List ℕ) : Type 0 where
  pub answer : answer_of o (length x) ≡ answer_of p (length y)
  pub bytes : (a : A) → answer_of o (length x) ≡ Ok a → (b : List ℕ) × (written_of o x ≡ b ++ drop (length b) x) × (written_of p y ≡ b ++ drop (length b) y)

-- For every tree.

-- what is promised of a tree: it has a flat tree and a print; what `display` left of the print in a buffer reads as the flat tree, into
-- any buffer; both trees answer alike and print alike
pub record Promised (t : List ℕ) : Type 0 where
  pub flat_bytes : List ℕ
  pub print : List ℕ
  pub is_flat : flat_tree t ≡ Ok flat_bytes
  pub shown : Writes (display_answer t) print
  pub again : (buffer : List ℕ) (n : ℕ) → answer_of (display_answer t) (length buffer) ≡ Ok n → Writes (parse_answer (take n (written_of (display_answer t) buffer))) flat_bytes
  pub alike : AnswersAlike flat_bytes t
  pub shown_alike : display_answer flat_bytes ≡ display_answer t
