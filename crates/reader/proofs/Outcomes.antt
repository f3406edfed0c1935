-- The answers of reading and the lent bytes. Assumes nothing.
use Rattle.std.specs.Prelude.{Result, Ok, Err}
use mathlib.Core.Path.{◌≡◌, refl, sym, ap, ◌∙◌}
use mathlib.Core.Bool.{true}
use mathlib.Core.List.{List}
use Prim.Native.Nat.{ℕ, ◌+◌, ◌*◌, ◌≤◌, ◌<◌}
use native.Mathlib.Omega.{arith}
use lib.ListN.{length, take}
use borrow.Author.Tests.{le-leb}
use Rattle.refusal.specs.Result.{map_ok, then}
use Rattle.refusal.specs.declared.Refusal.{Refusal}
use Rattle.refusal.specs.declared.Refusal.TheVariants.{NoRoom}
use Rattle.utf8.specs.Utf8.{is_utf8, decode}
use Rattle.utf8.specs.Limits.{text_limit, admitted}
use Rattle.utf8.proofs.Limits.{fits, admitted_refused}
use Rattle.grammar.specs.Expr.{Expr}
use Rattle.grammar.specs.Rows.{rows}
use Rattle.grammar.specs.Bytes.{bytes_of}
use Rattle.grammar.specs.Bytes as bytes
use Rattle.grammar.specs.Reading.{expression, reading, node_limit, citation_limit, cited_limit}
use Rattle.grammar.specs.Outcome.{answer_of, written_of, with_length, parse_answer}
use Rattle.grammar.proofs.Outcome.{answer_fits, answer_short, written_fits, written_short}
use Rattle.grammar.proofs.Theorems.{bytes-length, few-nodes}
use Rattle.fields.specs.Appended.{Appended}
use Rattle.fields.proofs.Appends as appends
use Rattle.lexer.specs.Tokens.{cuts}
use Rattle.lexer.specs.declared.Place.{Place}
use Rattle.parser.specs.declared.Row.{Row}
use Rattle.writer.specs.Unpacked.{unpacked}
use Rattle.writer.proofs.Laws.{packed-bytes}
use Rattle.reader.specs.Said.{tree_outcome}
use Rattle.reader.specs.Made.{Stands}
use Rattle.reader.proofs.Back.{rows_back}

-- a refusal: nothing is written
pub refused_reading : (x : Result Expr Refusal) (old : List ℕ) (why : Refusal) → x ≡ Err why → (Err why ≡ answer_of (tree_outcome x) (length old)) × (old ≡ written_of (tree_outcome x) old)
unfolding answer_of written_of map_ok then
refused_reading x old why e = (rw e, rw e)

outcome : (x : Result Expr Refusal) (e : Expr) → x ≡ Ok e → tree_outcome x ≡ Ok (with_length (bytes_of e))
unfolding map_ok
outcome x e h = rw h

module _ (s : List ℕ) (places : List Place) (held : List Row) (n c t : ℕ) (m : Stands s places held n c t) where
  abbrev e : Expr
  e = m.tree

  abbrev x : Result Expr Refusal
  x = expression (decode s)

  -- the length that is known before writing
  pub sized : 12 + 6 * n + 4 * c + t ≡ length (bytes_of e)
  sized = omega (arith, bytes-length e, m.nodes, m.cites, m.bytes)

  -- it is small
  pub small : (n ≤ node_limit) × (c ≤ citation_limit) × (t ≤ cited_limit)
  small = (omega (arith, few-nodes e m.fits, m.nodes), omega (arith, m.fits.few, m.cites), omega (arith, m.fits.small, m.bytes))

  rows_are : unpacked (take n held) ≡ rows 0 e
  rows_are = ap unpacked m.rowed ∙ rows_back 0 e

  -- a buffer that is too short
  pub no_room : (old : List ℕ) → length old < 12 + 6 * n + 4 * c + t → (Err NoRoom ≡ answer_of (tree_outcome x) (length old)) × (old ≡ written_of (tree_outcome x) old)
  no_room old l =
      let w = with_length (bytes_of e) in
      let h : length old < length (bytes_of e) = omega (arith, sized) in
      (rw (outcome x e m.is) (sym (answer_short w (length old) h)), rw (outcome x e m.is) (sym (written_short w old h)))

  -- the tree
  pub written : (old new : List ℕ) (q : ℕ) → 12 + 6 * n + 4 * c + t ≤ length old → Appended (bytes.packed (unpacked (take n held)) (cuts s (take c places))) 0 old new q
      → (Ok q ≡ answer_of (tree_outcome x) (length old)) × (new ≡ written_of (tree_outcome x) old)
  written old new q l a =
      let w = with_length (bytes_of e) in
      let b = appends.same (packed-bytes e (take n held) s (take c places) rows_are m.cited) a in
      let same : q ≡ length (bytes_of e) = omega (arith, b.ends) in
      let h : length (bytes_of e) ≤ length old = omega (arith, sized) in
      (rw (outcome x e m.is) (ap Ok same ∙ sym (answer_fits w (length old) h)), rw (outcome x e m.is) (appends.whole b ∙ sym (written_fits w old h)))

by_reading : (s : List ℕ) (x : Result Expr Refusal) → reading s ≡ x → parse_answer s ≡ tree_outcome x
unfolding parse_answer
by_reading s x h = ap (λ y. tree_outcome y) h

module _ (s old : List ℕ) where
  -- the text is not admitted
  pub not-admitted : (why : Refusal) → ◌≡◌ {A = Result (Unit {0}) Refusal} (Err why) (admitted text_limit s (Ok tt)) → (Err why ≡ answer_of (parse_answer s) (length old)) × (old ≡ written_of (parse_answer s) old)
  unfolding reading
  not-admitted why a =
      let q : reading s ≡ Err why = admitted_refused text_limit s a refl (expression (decode s)) in
      rw (by_reading s (Err why) q) (refused_reading (Err why) old why refl)

  -- an admitted text reads as its characters do
  pub admitted-reading : (r : Result ℕ Refusal) (new : List ℕ) → length s ≤ text_limit → is_utf8 s ≡ true
      → (r ≡ answer_of (tree_outcome (expression (decode s))) (length old)) × (new ≡ written_of (tree_outcome (expression (decode s))) old)
      → (r ≡ answer_of (parse_answer s) (length old)) × (new ≡ written_of (parse_answer s) old)
  unfolding reading
  admitted-reading r new short well h =
      let q : reading s ≡ expression (decode s) = fits text_limit s (expression (decode s)) (le-leb (length s) text_limit short, well) in
      rw (by_reading s (expression (decode s)) q) h
