-- From the printed tokens of a tree the rules derive its flat tree. Assumes nothing.
use Rattle.std.specs.Prelude.{◌≡◌, refl, List, [], ◌∷◌, ◌++◌, Ok}
use Rattle.std.proofs.Common.{append_assoc, append-nil}
use Rattle.grammar.specs.Expr.{Op, Expr, Exprs, cite, Then, join, none, more, ◌⧺◌, Some, Two, Wide, Wides}
use Rattle.grammar.proofs.Expr.{append_none, appends_assoc, two_rest}
use Rattle.grammar.specs.Lex.{Tok, op}
use Rattle.grammar.specs.Parse.{parse}
use Rattle.grammar.specs.Print.{in_tokens, bracketed, print, listed, links, operand}
use Rattle.grammar.specs.Flat.{operands, flat, flats, spliced}
use Rattle.grammar.proofs.Flat.{two_spliced}
use Rattle.grammar.specs.Rules.{Run, Term, Expression, Derives, citation, grouped, empty, next, single, several, lone}
use Rattle.grammar.proofs.Rules.{parse_exactly}
use Rattle.grammar.specs.Sentences.{Links, ends, link}
use Rattle.grammar.proofs.Sentences.{links_joined}

-- a run of what an operand gives to it is that operand's flat tree, as a term
flat_term : (e : Expr) → Wide e → {ts : List Tok} → Derives ts (Run (operands (flat e))) → Derives ts (Term (flat e))
unfolding flat operands
flat_term (cite t) w d = single d
flat_term (Then es) w d = several d (two_spliced es w.0 w.1)
flat_term (join o es) w d = single d

listed_none : (es : Exprs) → listed in_tokens [] es ≡ links in_tokens [] es
unfolding listed
listed_none none = refl
listed_none (more e es) = refl

some_flats : (es : Exprs) → Some es → Some (flats es)
unfolding flat
some_flats (more e es) h = tt
some_flats none h = elim h [ ]

mutual
  unfolding print bracketed flat operands ◌⧺◌

  -- an operand adds to a run what its flat tree gives to a Then
  operand_added : (e : Expr) → Wide e → {ts : List Tok} {es : Exprs} → Derives ts (Run es) → Derives (ts ++ operand in_tokens e) (Run (es ⧺ operands (flat e)))
  operand_added (cite t) w d = next d (citation t)
  operand_added (Then es) w d = rw (listed_none es) (operands_added es w.1 d)
  operand_added (join o es) w d = next d (grouped (listed_joined o es w.0 w.1))

  operands_added : (es : Exprs) → Wides es → {ts : List Tok} {fs : Exprs} → Derives ts (Run fs) → Derives (ts ++ links in_tokens [] es) (Run (fs ⧺ spliced es))
  operands_added none w d = rw (append-nil, append_none) d
  operands_added (more e es) w {ts} {fs} d =
      rw (← append_assoc ts (operand in_tokens e) (links in_tokens [] es), ← appends_assoc fs (operands (flat e)) (spliced es))
      (operands_added es w.1 (operand_added e w.0 d))

  -- operands with an operator between them are a node of it
  listed_joined : (o : Op) (es : Exprs) → Two es → Wides es → Derives (listed in_tokens (op o ∷ []) es) (Expression (join o (flats es)))
  listed_joined o (more e es) h w = links_joined (flat_term e w.0 (operand_added e w.0 empty)) (links_linked o es w.1) (some_flats es (two_rest e es h))
  listed_joined o none h w = elim h [ ]

  links_linked : (o : Op) (es : Exprs) → Wides es → Links o (links in_tokens (op o ∷ []) es) (flats es)
  links_linked o none w = ends
  links_linked o (more e es) w = link (flat_term e w.0 (operand_added e w.0 empty)) (links_linked o es w.1)

-- the rules derive the flat tree from the print
print_derives : (e : Expr) → Wide e → Derives (print in_tokens e) (Expression (flat e))
unfolding print bracketed flat operands ◌⧺◌
print_derives (cite t) w = lone (flat_term (cite t) w (operand_added (cite t) w empty))
print_derives (Then es) w = lone (flat_term (Then es) w (operand_added (Then es) w empty))
print_derives (join o es) w = listed_joined o es w.0 w.1

-- the printed tokens of a tree are parsed as its flat tree
pub round : (e : Expr) → Wide e → parse (print in_tokens e) ≡ Ok (flat e)
round e w = (parse_exactly (print in_tokens e) (flat e)).1 (print_derives e w)
