-- What a function that writes into a lent buffer answers, and the buffer's bytes afterwards. Assumes nothing.
use Rattle.std.specs.Prelude.{◌≡◌, List, ◌++◌, ℕ, ◌≤◌, ◌<◌, length, take, Ok, Err}
use Rattle.std.proofs.Math.Path.{ap}
use Rattle.std.proofs.Common.{◌∙◌}
use Rattle.std.proofs.Math.ListN.{drop}
use Rattle.std.proofs.Math.Seq.{take-append_seam}
use borrow.Author.Tests.{le-leb, lt-leb}
use Rattle.refusal.specs.Result.{then}
use Rattle.refusal.specs.declared.Refusal.TheVariants.{NoRoom}
use Rattle.grammar.specs.Outcome.{Written, answer_of, written_of}

module _ {A : Type 0} (w : Written A) where
  -- the answer for a buffer that is long enough
  pub answer_fits : (n : ℕ) → length w.bytes ≤ n → answer_of (Ok w) n ≡ Ok w.answer
  unfolding answer_of then
  answer_fits n h = rw (le-leb (length w.bytes) n h)

  -- the bytes of such a buffer
  pub written_fits : (old : List ℕ) → length w.bytes ≤ length old → written_of (Ok w) old ≡ w.bytes ++ drop (length w.bytes) old
  unfolding written_of
  written_fits old h = rw (le-leb (length w.bytes) (length old) h)

  -- the answer for one that is not
  pub answer_short : (n : ℕ) → n < length w.bytes → answer_of (Ok w) n ≡ Err NoRoom
  unfolding answer_of then
  answer_short n h = rw (lt-leb (length w.bytes) n h)

  -- the bytes of such a buffer: the old ones
  pub written_short : (old : List ℕ) → length old < length w.bytes → written_of (Ok w) old ≡ old
  unfolding written_of
  written_short old h = rw (lt-leb (length w.bytes) (length old) h)

  -- what is read back from a buffer that is long enough
  pub written_back : (old : List ℕ) → length w.bytes ≤ length old → take (length w.bytes) (written_of (Ok w) old) ≡ w.bytes
  written_back old h = ap (take (length w.bytes)) (written_fits old h) ∙ take-append_seam w.bytes (drop (length w.bytes) old)
