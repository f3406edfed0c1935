-- All tokens: what was read and placed is what parsing says. Assumes nothing.
use Rattle.std.specs.Prelude.{Result, Ok, Err}
use mathlib.Core.Path.{◌≡◌, refl, sym, ap, ◌∙◌}
use mathlib.Core.List.{List, ◌++◌}
use Prim.Native.Nat.{ℕ, ◌+◌, ◌-◌, ◌*◌, ◌≤◌, ◌<◌}
use native.Mathlib.Omega.{arith}
use lib.ListN.{length, take, drop}
use Rattle.refusal.specs.Result.{map_ok}
use Rattle.refusal.specs.declared.Refusal.{Refusal}
use Rattle.refusal.specs.declared.Refusal.TheVariants.{Parentheses}
use Rattle.grammar.specs.Expr.{Expr, none, ◌◂◌}
use Rattle.grammar.specs.Parse.{parse}
use Rattle.grammar.specs.Rows.{rows, rows_of, span, spans, rows_span}
use Rattle.grammar.specs.Reading.{citation_limit}
use Rattle.parser.specs.Packed.{packed}
use Rattle.parser.specs.Answer.{cites_in, parsed_kinds, rows_over}
use Rattle.parser.specs.Tokens.{from}
use Rattle.parser.specs.States.{Held, ChainSays, Stand, Placed}
use Rattle.lexer.specs.declared.TokenKind.{TokenKind}
use Rattle.parser.specs.declared.Pos.{Pos}
use Rattle.parser.specs.declared.Row.{Row}
use Rattle.parser.proofs.Steps.{parse_done, parse_left_over, parse_fails}
use Rattle.parser.proofs.Ahead.{from_end, close_here}
use Rattle.parser.proofs.Orders.{many_one, rows_one, span_one, packed-length}

-- where reading starts
abbrev pub origin : Pos
origin = record { at = 0; rows = 0; cites = 0 }

-- what `parse_tokens` says of kinds: its answer, and the rows before and after
abbrev Says : (s : List TokenKind) → Result ℕ Refusal → (l new : List Row) → Type 0
Says s r l new = (r ≡ map_ok span (parsed_kinds s)) × (new ≡ rows_over (parsed_kinds s) l)

module _ (s : List TokenKind) where
  parsed_is : parsed_kinds s ≡ parse (from s 0)
  unfolding parsed_kinds from
  parsed_is = refl

  refuses : (l : List Row) (why : Refusal) → parse (from s 0) ≡ Err why → Says s (Err why) l l
  unfolding map_ok
  refuses l why h = rw (parsed_is, h) (refl, refl)

  says : (l new : List Row) (n : ℕ) (e : Expr) → parse (from s 0) ≡ Ok e → n ≡ span e → new ≡ packed (rows 0 e) ++ drop n l → Says s (Ok n) l new
  unfolding map_ok
  says l new n e h z w =
      let size : n ≡ length (packed (rows 0 e)) = z ∙ sym (packed-length (rows 0 e) ∙ rows_span 0 e) in
      rw (parsed_is, h) (ap Ok z, w ∙ ap (λ (x : ℕ). packed (rows 0 e) ++ drop x l) size)

  module _ (old work : List Row) where
    pub refused_chain : (l : List Row) (why : Refusal) → ChainSays s origin old work (Err why) → Says s (Err why) l l
    refused_chain l why g = refuses l why (parse_fails g)

    module _ (q : Pos) (got : ChainSays s origin old work (Ok q)) where
      pub refused_rest : (l : List Row) → q.at < length s → Says s (Err Parentheses) l l
      refused_rest l i = refuses l Parentheses (parse_left_over (rw (close_here s q.at i got.1.stops) at got.1))

      held : Held 0 0 work q.rows q.cites (got.0 ◂ none)
      held = got.2.held

      high : q.rows ≡ span got.0
      high = omega (arith, held.sized, span_one got.0)

      rows_high : cites_in s ≤ citation_limit → (q.rows + 1 ≤ 2 * cites_in s) × (q.cites ≤ citation_limit)
      rows_high c = let w = got.2.within in (omega (arith, w.room, w.left), omega (arith, w.left))

      abbrev stand : cites_in s ≤ citation_limit → Stand work q.rows 1 q.rows
      stand c = record {
        trees = got.0 ◂ none;
        start = 0;
        first = 0;
        cites = q.cites;
        held = held;
        number = many_one got.0;
        fits = omega (arith, high, span_one got.0);
      }

      pub stands : cites_in s ≤ citation_limit → Stand work q.rows 1 q.rows
      stands c = stand c

      pub rows_fit : (room : ℕ) → cites_in s ≤ citation_limit → 2 * cites_in s ≤ room + 1 → q.rows ≤ room
      rows_fit room c k = omega (arith, (rows_high c).0)

      pub read_all : (l new : List Row) → cites_in s ≤ citation_limit → length s ≤ q.at → Placed work q.rows 1 q.rows l new
          → Says s (Ok q.rows) l new
      read_all l new c i p =
          let z : q.rows - spans (got.0 ◂ none) ≡ 0 = omega (arith, high, span_one got.0) in
          let w : new ≡ packed (rows 0 got.0) ++ drop q.rows l =
          p.is (stand c) ∙ ap (λ x. take x l ++ (packed (rows_of 0 (got.0 ◂ none)) ++ drop q.rows l)) z
          ∙ ap (λ x. packed x ++ drop q.rows l) (rows_one 0 got.0) in
          says l new q.rows got.0 (parse_done (rw (from_end s q.at i) at got.1)) high w
