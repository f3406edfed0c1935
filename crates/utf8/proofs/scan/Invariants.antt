use Prim.Native.Nat.{◌+◌, ◌≤◌}
use mathlib.Core.Path.{◌≡◌}
use lib.ListN.{drop}
use Rattle.utf8.specs.Utf8.{is_utf8, char_count}
use Rattle.utf8.proofs.scan.Given as goal

abbrev pub invariant-loop-code : goal.invariant-loop-code
invariant-loop-code l = let it = l.code-iterator in
    (it.text.now ≡ l.s) × (is_utf8 (drop it.at l.s) ≡ is_utf8 l.s) × (l.chars + char_count (drop it.at l.s) ≡ char_count l.s) × (l.chars ≤ it.at)
