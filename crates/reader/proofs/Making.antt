-- From the answers of the lexer and the parser to the tree of a text. Assumes nothing.
use Rattle.std.specs.Prelude.{Result, Ok, Err}
use mathlib.Core.Path.{◌≡◌, refl, sym, ap, ◌∙◌}
use mathlib.Core.Bool.{true}
use mathlib.Core.List.{List, ◌++◌}
use Prim.Native.Nat.{ℕ, ◌+◌, ◌*◌, ◌≤◌}
use native.Mathlib.Omega.{arith}
use lib.ListN.{length, take, drop, length-take}
use lib.Seq.{take_at}
use Rattle.refusal.specs.Result.{err≢ok, map_ok, then}
use Rattle.refusal.specs.declared.Refusal.{Refusal}
use Rattle.utf8.specs.Utf8.{is_utf8, decode}
use Rattle.utf8.specs.Limits.{text_limit}
use Rattle.utf8.proofs.Sound.{utf8_sound}
use Rattle.grammar.specs.Expr.{Expr, concat, citations}
use Rattle.grammar.specs.Lex.{texts}
use Rattle.grammar.specs.Rows.{rows, span, rows_span}
use Rattle.grammar.specs.Parse.{parse}
use Rattle.grammar.proofs.Cites.{parse-cites}
use Rattle.grammar.specs.Reading.{citation_limit, expression}
use Rattle.grammar.proofs.Reading.{expression_fits}
use Rattle.lexer.specs.Tokens.{counted, tokenized}
use Rattle.lexer.specs.declared.TokenKind.{TokenKind}
use Rattle.lexer.specs.declared.Place.{Place}
use Rattle.lexer.proofs.Turns as turns
use Rattle.lexer.proofs.Told.{Told, told, told_refused}
use Rattle.lexer.proofs.Limits.{tokenized_parsed}
use Rattle.parser.specs.Packed.{packed}
use Rattle.parser.specs.declared.Row.{Row}
use Rattle.parser.specs.Answer.{cites_in, rows_in, parsed_kinds, rows_over}
use Rattle.parser.proofs.Bare.{said_by_kinds, rows_by_kinds, cites_of_kinds}
use Rattle.parser.proofs.Orders.{packed-length}
use Rattle.reader.specs.Made.{Room, Stands}

-- the text has no tokens
pub not_lexed : (s : List ℕ) (why : Refusal) → Err why ≡ map_ok counted (tokenized (decode s)) → expression (decode s) ≡ Err why
unfolding then
not_lexed s why a =
    let q : tokenized (decode s) ≡ Err why = told_refused (tokenized (decode s)) why a in
    sym (tokenized_parsed (decode s)) ∙ rw q

record Was (x : Result Expr Refusal) (nodes : ℕ) : Type 0 where
  pub tree : Expr
  pub is : x ≡ Ok tree
  pub many : nodes ≡ span tree

was : (x : Result Expr Refusal) (nodes : ℕ) → Ok nodes ≡ map_ok span x → Was x nodes
unfolding map_ok
was (Ok x) nodes h = record { tree = x; is = refl; many = cc }
was (Err j) nodes h = absurd (err≢ok (sym h))

module _ (s : List ℕ) {kinds : List TokenKind} {places : List Place} {k p w r : ℕ} (room : Room (length s) k p w r) (isk : length kinds ≡ k) (isp : length places ≡ p)
    (u : is_utf8 s ≡ true) (kinds₀ : List TokenKind) (places₀ : List Place) (same : length places ≡ length places₀) {n m b : ℕ}
    (said : turns.Answers s kinds₀ places₀ kinds places (Ok (record { tokens = n; cites = m; bytes = b }))) where
  -- what `lex` told
  pub told_counts : Told s kinds places n m b
  told_counts = told s kinds₀ places₀ kinds places n m b u same (λ x y. let z = room.cites m x (omega arith) in omega arith) said

  cites_are : cites_in (take n kinds) ≡ m
  cites_are = ap cites_in told_counts.shown ∙ cites_of_kinds told_counts.toks ∙ sym told_counts.cites

  within : m ≤ k
  within = omega (arith, told_counts.fewer, told_counts.room)

  -- the scratch is large enough to parse
  pub parse-room : (length (take n kinds) ≤ text_limit) × (cites_in (take n kinds) ≤ citation_limit) × (2 * cites_in (take n kinds) ≤ w + 1) × (2 * cites_in (take n kinds) ≤ r + 1)
  parse-room =
      let a = room.works m told_counts.most within in
      let c = room.nodes m told_counts.most within in
      (omega (arith, length-take n kinds, room.short, told_counts.room), omega (arith, cites_are, told_counts.most), omega (arith, cites_are, a), omega (arith, cites_are, c))

  read_by : expression (decode s) ≡ parse told_counts.toks
  unfolding then
  read_by = sym (tokenized_parsed (decode s)) ∙ ap (λ x. then x parse) told_counts.is

  said_of : map_ok span (parsed_kinds (take n kinds)) ≡ map_ok span (parse told_counts.toks)
  said_of = ap (λ x. map_ok span (parsed_kinds x)) told_counts.shown ∙ said_by_kinds told_counts.toks

  rows_of : rows_in (parsed_kinds (take n kinds)) ≡ rows_in (parse told_counts.toks)
  rows_of = ap (λ x. rows_in (parsed_kinds x)) told_counts.shown ∙ rows_by_kinds told_counts.toks

  -- the tokens are no expression
  pub not_parsed : (why : Refusal) → Err why ≡ map_ok span (parsed_kinds (take n kinds)) → expression (decode s) ≡ Err why
  unfolding map_ok
  not_parsed why a = read_by ∙ go (parse told_counts.toks) (a ∙ said_of)
    where
      go : (x : Result Expr Refusal) → Err why ≡ map_ok span x → x ≡ Err why
      go (Ok x) h = absurd (err≢ok h)
      go (Err j) h = cc

  -- the tree of the text
  pub stands : (old held : List Row) (nodes : ℕ) → Ok nodes ≡ map_ok span (parsed_kinds (take n kinds))
      → held ≡ rows_over (parsed_kinds (take n kinds)) old → Stands s places held nodes m b
  stands old held nodes e h =
      let g = was (parse told_counts.toks) nodes (e ∙ said_of) in
      let x = g.tree in
      let is : expression (decode s) ≡ Ok x = read_by ∙ g.is in
      let c : citations x ≡ texts told_counts.toks = parse-cites told_counts.toks x g.is in
      let size : length (packed (rows 0 x)) ≡ nodes = packed-length (rows 0 x) ∙ rows_span 0 x ∙ sym g.many in
      let rowed : take nodes held ≡ packed (rows 0 x) =
      ap (take nodes) (h ∙ ap (λ l. l ++ drop (length l) old) (rows_of ∙ ap rows_in g.is)) ∙ take_at (packed (rows 0 x)) _ nodes size in
      let z = room.cites m told_counts.most within in
      record {
        tree = x;
        is = is;
        fits = expression_fits (decode s) (utf8_sound s u).0 x is;
        nodes = g.many;
        cites = told_counts.cites ∙ ap length (sym c);
        bytes = told_counts.bytes ∙ ap (λ y. length (concat y)) (sym c);
        rowed = rowed;
        cited = told_counts.held ∙ sym c;
        rows_room = omega (arith, simp length-take at (ap length rowed), size);
        cites_room = omega arith;
      }
