-- How long and how deep a print is. Assumes nothing.
use Rattle.std.specs.Prelude.{◌≡◌, true, ℕ, suc, pred, ◌+◌, ◌*◌, ◌≤◌, length}
use Rattle.std.proofs.Math.Path.{refl}
use Rattle.std.proofs.Common.{sym, ap, arith, length-append, lt-ltb}
use mathlib.Core.List.{List, [], ◌∷◌, ◌++◌, append_assoc}
use Rattle.utf8.specs.Utf8.{encode_char}
use Rattle.grammar.specs.Expr.{Op, And, Or, Xor, Expr, Exprs, cite, Then, join, none, more, ◌◂◌, Two, Wide, Wides, citations, citations_of, count, concat}
use Rattle.grammar.specs.Lex.{Tok, cited, op, opening, closing, symbol}
use Rattle.grammar.specs.Print.{in_tokens, in_bytes, sign_bytes, bracketed, print, listed, links, operand, printed}
use Rattle.grammar.specs.Reading.{shallow, Fits, print_limit}

-- 2 for operands, if there are any
spare : Exprs → ℕ
spare none = 0
spare (more e es) = 2

spare_two : (e : Expr) (es : Exprs) → Two (e ◂ es) → spare es ≡ 2
unfolding spare
spare_two e (more f es) q = refl
spare_two e none q = elim q [ ]

-- how many parentheses are opened
opened : List Tok → ℕ
opened [] = 0
opened (cited t ∷ ts) = opened ts
opened (op o ∷ ts) = opened ts
opened (opening ∷ ts) = suc (opened ts)
opened (closing ∷ ts) = opened ts

-- no more are open at a time than are opened
opened_shallow : (most n : ℕ) (ts : List Tok) → n + opened ts ≤ most → shallow most n ts ≡ true
unfolding opened shallow
opened_shallow most n [] h = refl
opened_shallow most n (cited t ∷ ts) h = opened_shallow most n ts h
opened_shallow most n (op o ∷ ts) h = opened_shallow most n ts h
opened_shallow most n (opening ∷ ts) h = rw (lt-ltb n most (omega arith)) (opened_shallow most (suc n) ts (omega arith))
opened_shallow most n (closing ∷ ts) h = opened_shallow most (pred n) ts (omega arith)

opened_append : (a b : List Tok) → opened (a ++ b) ≡ opened a + opened b
unfolding opened
opened_append [] b = omega arith
opened_append (cited t ∷ a) b = opened_append a b
opened_append (op o ∷ a) b = opened_append a b
opened_append (opening ∷ a) b = omega (arith, opened_append a b)
opened_append (closing ∷ a) b = opened_append a b

mutual
  unfolding print bracketed citations opened spare

  -- a printed operand opens fewer parentheses than it has citations
  operand_opened : (e : Expr) → Wide e → opened (operand in_tokens e) + 1 ≤ count e
  operand_opened (cite t) w = omega arith
  operand_opened (Then es) w = omega (arith, listed_opened [] refl es w.0 w.1)
  operand_opened (join o es) w =
      omega (arith, listed_opened (op o ∷ []) refl es w.0 w.1, opened_append (listed in_tokens (op o ∷ []) es) (closing ∷ []))

  listed_opened : (sep : List Tok) → opened sep ≡ 0 → (es : Exprs) → Two es → Wides es → opened (listed in_tokens sep es) + 2 ≤ length (citations_of es)
  listed_opened sep k (more e es) h w =
      omega (arith, opened_append (operand in_tokens e) (links in_tokens sep es), length-append (citations e) (citations_of es), operand_opened e w.0, links_opened sep k es w.1, spare_two e es h)
  listed_opened sep k none h w = elim h [ ]

  links_opened : (sep : List Tok) → opened sep ≡ 0 → (es : Exprs) → Wides es → 2 * opened (links in_tokens sep es) + spare es ≤ 2 * length (citations_of es)
  links_opened sep k none w = omega arith
  links_opened sep k (more e es) w =
      omega (arith, opened_append sep (operand in_tokens e ++ links in_tokens sep es), opened_append (operand in_tokens e) (links in_tokens sep es), length-append (citations e) (citations_of es), operand_opened e w.0, links_opened sep k es w.1)

-- a print is two parentheses less deep, at least, than it has citations
pub print_shallow : (most : ℕ) (e : Expr) → Wide e → count e ≤ most + 2 → shallow most 0 (print in_tokens e) ≡ true
unfolding print citations opened
print_shallow most (cite t) w h = opened_shallow most 0 (cited t ∷ []) (omega arith)
print_shallow most (Then es) w h = opened_shallow most 0 (listed in_tokens [] es) (omega (arith, listed_opened [] refl es w.0 w.1))
print_shallow most (join o es) w h =
    opened_shallow most 0 (listed in_tokens (op o ∷ []) es) (omega (arith, listed_opened (op o ∷ []) refl es w.0 w.1))

-- texts of two lists, one after another
pub concat_append : (a b : List (List ℕ)) → concat (a ++ b) ≡ concat a ++ concat b
unfolding concat
concat_append [] b = refl
concat_append (t ∷ a) b = rw (concat_append a b) (sym (append_assoc t (concat a) (concat b)))

-- the bytes of texts, with nine more for each: brackets, a separator and a pair of parentheses
room : List (List ℕ) → ℕ
room ts = length (concat ts) + 9 * length ts

room_append : (a b : List (List ℕ)) → room (a ++ b) ≡ room a + room b
unfolding room
room_append a b = omega (arith, length-append a b, ap length (concat_append a b), length-append (concat a) (concat b))

sign_size : (o : Op) → length (sign_bytes o) ≤ 5
unfolding sign_bytes encode_char symbol
sign_size And = omega arith
sign_size Or = omega arith
sign_size Xor = omega arith

bracketed_size : (e : Expr) (p : List ℕ) → length (bracketed in_bytes e p) ≤ length p + 2
unfolding bracketed
bracketed_size (cite t) p = omega arith
bracketed_size (Then es) p = omega arith
bracketed_size (join o es) p = omega (arith, length-append p (0x29 ∷ []))

cite_room : (t : List ℕ) → length (printed (cite t)) + 7 ≤ room (t ∷ [])
unfolding room concat print
cite_room t = omega (arith, length-append t (0x5D ∷ []), length-append t [])

mutual
  unfolding print bracketed citations spare room concat

  operand_size : (e : Expr) → Wide e → length (operand in_bytes e) + 7 ≤ room (citations e)
  operand_size (cite t) r = cite_room t
  operand_size (Then es) r = omega (arith, listed_size in_bytes.gap (omega arith) es r.0 r.1)
  operand_size (join o es) r =
      omega (arith, bracketed_size (join o es) (listed in_bytes (sign_bytes o) es), listed_size (sign_bytes o) (sign_size o) es r.0 r.1)

  listed_size : (sep : List ℕ) → length sep ≤ 5 → (es : Exprs) → Two es → Wides es → length (listed in_bytes sep es) + 9 ≤ room (citations_of es)
  listed_size sep k (more e es) q r =
      rw (length-append (operand in_bytes e) (links in_bytes sep es), room_append)
      (omega (arith, operand_size e r.0, links_size sep k es r.1, spare_two e es q))
  listed_size sep k none q r = elim q [ ]

  links_size : (sep : List ℕ) → length sep ≤ 5 → (es : Exprs) → Wides es → length (links in_bytes sep es) + spare es ≤ room (citations_of es)
  links_size sep k none r = omega arith
  links_size sep k (more e es) r =
      rw (length-append sep (operand in_bytes e ++ links in_bytes sep es), length-append (operand in_bytes e) (links in_bytes sep es), room_append)
      (omega (arith, operand_size e r.0, links_size sep k es r.1))

-- a print has at most nine bytes more for each citation than there are in them
pub print_room : (e : Expr) → Wide e → length (printed e) + 7 ≤ length (concat (citations e)) + 9 * count e
unfolding print citations room
print_room (cite t) r = cite_room t
print_room (Then es) r = omega (arith, listed_size in_bytes.gap (omega arith) es r.0 r.1)
print_room (join o es) r = omega (arith, listed_size (sign_bytes o) (sign_size o) es r.0 r.1)

-- no print is longer than 4,343 bytes
pub print_short : (e : Expr) → Fits e → length (printed e) ≤ print_limit
unfolding print citations room
print_short (cite t) f = omega (arith, cite_room t, f.small, f.few)
print_short (Then es) f = omega (arith, listed_size in_bytes.gap (omega arith) es f.wide.0 f.wide.1, f.small, f.few)
print_short (join o es) f = omega (arith, listed_size (sign_bytes o) (sign_size o) es f.wide.0 f.wide.1, f.small, f.few)
