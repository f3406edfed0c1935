use Prim.Native.Nat.{◌+◌, ◌*◌}
use mathlib.Core.Path.{◌≡◌}
use lib.ListN.{length, take}
use Rattle.fields.specs.Appended.{Appended}
use Rattle.grammar.specs.Expr.{concat}
use Rattle.grammar.specs.Bytes.{cite_bytes}
use Rattle.lexer.specs.Tokens.{cuts}
use Rattle.writer.proofs.put_cites.Given as goal

abbrev pub invariant-loop-place : goal.invariant-loop-place
invariant-loop-place l = record {
  ends : l.w ≡ l.at + 4 * l.place-index;
  offset : l.o ≡ length (concat (cuts l.text (take l.place-index l.places)));
  written : Appended (cite_bytes 0 (cuts l.text (take l.place-index l.places))) l.at l.initial.out l.out l.w;
}
