-- What reading says, and what it comes to before the buffer is looked at. Assumes nothing.
use Rattle.std.specs.Prelude.{ℕ, Result}
use Rattle.refusal.specs.declared.Refusal.{Refusal}
use Rattle.refusal.specs.Result.{map_ok}
use Rattle.grammar.specs.Expr.{Expr}
use Rattle.grammar.specs.Bytes.{bytes_of}
use Rattle.grammar.specs.Status.{Stated}
use Rattle.grammar.specs.Outcome.{Outcome, with_length, StatusSaid, stated_bytes}

-- the bytes of the tree that was read
abbrev pub tree_outcome : Result Expr Refusal → Outcome ℕ
tree_outcome r = map_ok (λ e. with_length (bytes_of e)) r

-- the status that was read, as answered and written
abbrev pub status_outcome : Result Stated Refusal → Outcome StatusSaid
status_outcome r = map_ok stated_bytes r
