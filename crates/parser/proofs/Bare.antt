-- Parsing does not look at the texts of citations. Assumes nothing.
use Rattle.std.specs.Prelude.{Result, Ok, Err}
use mathlib.Core.Path.{◌≡◌, refl, sym, ap, ◌∙◌}
use mathlib.Core.Bool.{Bool, true, false, cond}
use mathlib.Core.List.{List, [], ◌∷◌, map}
use Prim.Native.Nat.{ℕ, suc, ◌+◌}
use lib.ListN.{length, length-append}
use Rattle.refusal.specs.declared.Refusal.{Refusal}
use Rattle.refusal.specs.Result.{map_ok}
use Rattle.grammar.specs.Expr.{Op, And, Or, Xor, Expr, Exprs, cite, Then, join, none, more, ◌◂◌, ◌⧺◌, ◌▸◌, citations, citations_of, count}
use Rattle.grammar.specs.Lex.{Tok, cited, op, opening, closing, texts}
use Rattle.grammar.specs.Parse.{same, gather, Side, lead, chain, whole, grow, Left, start, after, Opens, top, within, value, read, parse}
use Rattle.grammar.specs.Rows.{many, node, rows, rows_of, span, spans}
use Rattle.lexer.specs.Tokens.{sign_token, kind_of, kinds_of}
use Rattle.parser.specs.Packed.{packed}
use Rattle.parser.specs.Answer.{cites_in, rows_in, parsed_kinds}
use Rattle.parser.specs.Tokens.{tok}

-- the same without texts

abbrev bare_tok : Tok → Tok
bare_tok (cited t) = cited []
bare_tok (op o) = op o
bare_tok opening = opening
bare_tok closing = closing

unfoldable mutual
  bare : Expr → Expr
  bare (cite t) = cite []
  bare (Then es) = Then (bares es)
  bare (join o es) = join o (bares es)

  bares : Exprs → Exprs
  bares none = none
  bares (more e es) = bare e ◂ bares es

unfoldable bare_side : Side → Side
bare_side (lead e) = lead (bare e)
bare_side (chain o es) = chain o (bares es)

unfoldable bare_left : Left → Left
bare_left start = start
bare_left (after s o) = after (bare_side s) o

unfoldable bare_opens : Opens → Opens
bare_opens top = top
bare_opens (within l run w) = within (bare_left l) (bares run) (bare_opens w)

bares_append : (a b : Exprs) → bares (a ⧺ b) ≡ bares a ⧺ bares b
unfolding bare ◌⧺◌
bares_append none b = refl
bares_append (more e a) b = ap (more (bare e)) (bares_append a b)

bares_more : (a : Exprs) (e : Expr) → bares (a ▸ e) ≡ bares a ▸ bare e
unfolding bare
bares_more a e = bares_append a (e ◂ none)

bare_gather : (run : Exprs) → bare (gather run) ≡ gather (bares run)
unfolding bare gather
bare_gather none = refl
bare_gather (more e none) = refl
bare_gather (more e (more f es)) = refl

bare_whole : (s : Side) → bare (whole s) ≡ whole (bare_side s)
unfolding bare bare_side whole
bare_whole (lead e) = refl
bare_whole (chain o es) = refl

side_if : (b : Bool) (s t : Side) → bare_side (cond b s t) ≡ cond b (bare_side s) (bare_side t)
side_if true s t = refl
side_if false s t = refl

bare_grow : (s : Side) (o : Op) (b : Expr) → bare_side (grow s o b) ≡ grow (bare_side s) o (bare b)
unfolding bare bare_side grow
bare_grow (lead a) o b = refl
bare_grow (chain p es) o b =
    side_if (same p o) (chain p (es ▸ b)) (chain o (join p es ◂ b ◂ none))
    ∙ ap (λ x. cond (same p o) (chain p x) (chain o (join p (bares es) ◂ bare b ◂ none))) (bares_more es b)

bare_value : (l : Left) (run : Exprs) → bare_side (value l run) ≡ value (bare_left l) (bares run)
unfolding bare_side bare_left value
bare_value start run = ap lead (bare_gather run)
bare_value (after s o) run = bare_grow s o (gather run) ∙ ap (λ x. grow (bare_side s) o x) (bare_gather run)

bare_whole-value : (l : Left) (run : Exprs) → bare (whole (value l run)) ≡ whole (value (bare_left l) (bares run))
bare_whole-value l run = bare_whole (value l run) ∙ ap whole (bare_value l run)

read_bare : (ts : List Tok) (l : Left) (run : Exprs) (w : Opens)
    → read (map bare_tok ts) (bare_left l) (bares run) (bare_opens w) ≡ map_ok bare (read ts l run w)
unfolding read bare bare_left bare_opens map_ok
read_bare [] l none w = refl
read_bare [] l (more e es) top = ap Ok (sym (bare_whole-value l (e ◂ es)))
read_bare [] l (more e es) (within l' run' w) = refl
read_bare (cited t ∷ ts) l run w =
    ap (λ x. read (map bare_tok ts) (bare_left l) x (bare_opens w)) (sym (bares_more run (cite t))) ∙ read_bare ts l (run ▸ cite t) w
read_bare (opening ∷ ts) l run w = read_bare ts start none (within l run w)
read_bare (op o ∷ ts) l none w = refl
read_bare (op o ∷ ts) l (more e es) w =
    ap (λ x. read (map bare_tok ts) (after x o) none (bare_opens w)) (sym (bare_value l (e ◂ es))) ∙ read_bare ts (after (value l (e ◂ es)) o) none w
read_bare (closing ∷ ts) l none w = refl
read_bare (closing ∷ ts) l (more e es) top = refl
read_bare (closing ∷ ts) l (more e es) (within l' run' w) =
    ap (λ x. read (map bare_tok ts) (bare_left l') x (bare_opens w))
    (ap (λ x. bares run' ▸ x) (sym (bare_whole-value l (e ◂ es))) ∙ sym (bares_more run' (whole (value l (e ◂ es)))))
    ∙ read_bare ts l' (run' ▸ whole (value l (e ◂ es))) w

-- rows do not say texts

mutual
  unfolding bare citations

  count_bare : (e : Expr) → count (bare e) ≡ count e
  count_bare (cite t) = refl
  count_bare (Then es) = counts_bare es
  count_bare (join o es) = counts_bare es

  counts_bare : (es : Exprs) → length (citations_of (bares es)) ≡ length (citations_of es)
  counts_bare none = refl
  counts_bare (more e es) =
      length-append (citations (bare e)) (citations_of (bares es)) ∙ rw (count_bare e, counts_bare es)
      (sym (length-append (citations e) (citations_of es)))

many_bare : (es : Exprs) → many (bares es) ≡ many es
unfolding bare many
many_bare none = refl
many_bare (more e es) = ap suc (many_bare es)

mutual
  unfolding bare rows node

  rows_bare : (n : ℕ) (e : Expr) → rows n (bare e) ≡ rows n e
  rows_bare n (cite t) = refl
  rows_bare n (Then es) = rw (rows_bares n es, many_bare es)
  rows_bare n (join o es) = rw (rows_bares n es, many_bare es)

  rows_bares : (n : ℕ) (es : Exprs) → rows_of n (bares es) ≡ rows_of n es
  rows_bares n none = refl
  rows_bares n (more e es) = rw (rows_bare n e, count_bare e, rows_bares (n + count e) es)

mutual
  unfolding bare span

  span_bare : (e : Expr) → span (bare e) ≡ span e
  span_bare (cite t) = refl
  span_bare (Then es) = ap suc (spans_bare es)
  span_bare (join o es) = ap suc (spans_bare es)

  spans_bare : (es : Exprs) → spans (bares es) ≡ spans es
  spans_bare none = refl
  spans_bare (more e es) = rw (span_bare e, spans_bare es)

-- tokens by their kinds

tok_kind : (t : Tok) → tok (kind_of t) ≡ bare_tok t
unfolding tok kind_of sign_token
tok_kind (cited t) = refl
tok_kind (op And) = refl
tok_kind (op Or) = refl
tok_kind (op Xor) = refl
tok_kind opening = refl
tok_kind closing = refl

toks_kinds : (ts : List Tok) → map tok (kinds_of ts) ≡ map bare_tok ts
unfolding kinds_of
toks_kinds [] = refl
toks_kinds (t ∷ ts) = rw (tok_kind t, toks_kinds ts)

parse_bare : (ts : List Tok) → parse (map bare_tok ts) ≡ map_ok bare (parse ts)
unfolding parse bare bare_left bare_opens
parse_bare ts = read_bare ts start none top

-- tokens parse as their kinds do, but for the texts that they cite
parsed_bare : (ts : List Tok) → parsed_kinds (kinds_of ts) ≡ map_ok bare (parse ts)
unfolding parsed_kinds
parsed_bare ts = ap parse (toks_kinds ts) ∙ parse_bare ts

spans_same : (r : Result Expr Refusal) → map_ok span (map_ok bare r) ≡ map_ok span r
unfolding map_ok
spans_same (Ok e) = ap Ok (span_bare e)
spans_same (Err k) = refl

rows_same : (r : Result Expr Refusal) → rows_in (map_ok bare r) ≡ rows_in r
unfolding map_ok
rows_same (Ok e) = ap packed (rows_bare 0 e)
rows_same (Err k) = refl

-- how many rows there are depends on the kinds alone
pub said_by_kinds : (ts : List Tok) → map_ok span (parsed_kinds (kinds_of ts)) ≡ map_ok span (parse ts)
said_by_kinds ts = ap (map_ok span) (parsed_bare ts) ∙ spans_same (parse ts)

-- and so do the rows
pub rows_by_kinds : (ts : List Tok) → rows_in (parsed_kinds (kinds_of ts)) ≡ rows_in (parse ts)
rows_by_kinds ts = ap rows_in (parsed_bare ts) ∙ rows_same (parse ts)

-- as many citations as texts
pub cites_of_kinds : (ts : List Tok) → cites_in (kinds_of ts) ≡ length (texts ts)
unfolding cites_in kinds_of kind_of sign_token texts
cites_of_kinds [] = refl
cites_of_kinds (cited t ∷ ts) = ap suc (cites_of_kinds ts)
cites_of_kinds (op And ∷ ts) = cites_of_kinds ts
cites_of_kinds (op Or ∷ ts) = cites_of_kinds ts
cites_of_kinds (op Xor ∷ ts) = cites_of_kinds ts
cites_of_kinds (opening ∷ ts) = cites_of_kinds ts
cites_of_kinds (closing ∷ ts) = cites_of_kinds ts
