-- The flat tree (a term of document 01; docs/FORMAT.md, 'The printed form'). Assumes nothing.
use Rattle.std.specs.Prelude.{◌≡◌}
use Rattle.std.proofs.Math.Path.{refl}
use Rattle.std.proofs.Common.{sym, ◌∙◌}
use mathlib.Core.List.{List, ◌++◌, append_assoc, append-nil}
use Rattle.grammar.specs.Expr.{Expr, Exprs, cite, Then, join, none, more, ◌⧺◌, Some, Two, Wide, Wides, citations, citations_of, citations_append}
use Rattle.grammar.proofs.Expr.{some_append, two_append, wides_append}
use Rattle.grammar.specs.Print.{Style, bracketed, print, listed, links, operand}
use Rattle.grammar.specs.Flat.{operands, flat, flats, spliced}

citations_operands : (e : Expr) → citations_of (operands e) ≡ citations e
unfolding citations_of operands
citations_operands (cite t) = refl
citations_operands (Then es) = refl
citations_operands (join o es) = rw append-nil

mutual
  unfolding citations flat

  -- it cites what the tree cites, in the same order, so each citation keeps its number and its text
  pub citations_flat : (e : Expr) → citations (flat e) ≡ citations e
  citations_flat (cite t) = refl
  citations_flat (Then es) = citations_spliced es
  citations_flat (join o es) = citations_flats es

  pub citations_flats : (es : Exprs) → citations_of (flats es) ≡ citations_of es
  citations_flats none = refl
  citations_flats (more e es) = rw (citations_flat e, citations_flats es)

  pub citations_spliced : (es : Exprs) → citations_of (spliced es) ≡ citations_of es
  citations_spliced none = refl
  citations_spliced (more e es) =
      citations_append (operands (flat e)) (spliced es) ∙ rw (citations_operands (flat e), citations_flat e, citations_spliced es)

mutual
  unfolding flat operands

  pub some_operands : (e : Expr) → Wide e → Some (operands (flat e))
  some_operands (cite t) r = tt
  some_operands (Then es) r = some_spliced es r.0 r.1
  some_operands (join o es) r = tt

  some_spliced : (es : Exprs) → Two es → Wides es → Some (spliced es)
  some_spliced (more e es) h r = some_append (operands (flat e)) (spliced es) (some_operands e r.0)
  some_spliced none h r = elim h [ ]

-- a flat Then keeps two operands or more
pub two_spliced : (es : Exprs) → Two es → Wides es → Two (spliced es)
unfolding flat
two_spliced (more e (more f es)) h r =
    two_append (operands (flat e)) (operands (flat f) ⧺ spliced es) (some_operands e r.0)
    (some_append (operands (flat f)) (spliced es) (some_operands f r.1.0))
two_spliced none h r = elim h [ ]
two_spliced (more e none) h r = elim h [ ]

two_flats : (es : Exprs) → Two es → Two (flats es)
unfolding flat
two_flats (more e (more f es)) h = tt
two_flats none h = elim h [ ]
two_flats (more e none) h = elim h [ ]

wide_operands : (e : Expr) → Wide e → Wides (operands e)
unfolding operands
wide_operands (cite t) w = (tt, tt)
wide_operands (Then es) w = w.1
wide_operands (join o es) w = (w, tt)

mutual
  unfolding flat

  -- inner nodes keep two operands or more
  pub wide_flat : (e : Expr) → Wide e → Wide (flat e)
  wide_flat (cite t) w = tt
  wide_flat (Then es) w = (two_spliced es w.0 w.1, wide_spliced es w.1)
  wide_flat (join o es) w = (two_flats es w.0, wide_flats es w.1)

  wide_flats : (es : Exprs) → Wides es → Wides (flats es)
  wide_flats none w = tt
  wide_flats (more e es) w = (wide_flat e w.0, wide_flats es w.1)

  wide_spliced : (es : Exprs) → Wides es → Wides (spliced es)
  wide_spliced none w = tt
  wide_spliced (more e es) w =
      wides_append (operands (flat e)) (spliced es) (wide_operands (flat e) (wide_flat e w.0)) (wide_spliced es w.1)

module _ {A : Type 0} (s : Style A) where
  links_append : (sep : List A) (a b : Exprs) → links s sep (a ⧺ b) ≡ links s sep a ++ links s sep b
  unfolding links ◌⧺◌
  links_append sep none b = refl
  links_append sep (more e a) b = rw (links_append sep a b) (simp append_assoc)

  listed_append : (sep : List A) (a b : Exprs) → Some a → listed s sep (a ⧺ b) ≡ listed s sep a ++ links s sep b
  unfolding listed ◌⧺◌
  listed_append sep (more e a) b h = rw (links_append sep a b) (sym (append_assoc (operand s e) (links s sep a) (links s sep b)))
  listed_append sep none b h = elim h [ ]

  links_listed : (sep : List A) (a : Exprs) → Some a → links s sep a ≡ sep ++ listed s sep a
  unfolding links
  links_listed sep (more e a) h = refl
  links_listed sep none h = elim h [ ]

  listed_operands : (e : Expr) → listed s s.gap (operands e) ≡ operand s e
  unfolding listed bracketed operands
  listed_operands (cite t) = rw append-nil
  listed_operands (Then es) = refl
  listed_operands (join o es) = rw append-nil

  bracketed_flat : (e : Expr) (p : List A) → bracketed s (flat e) p ≡ bracketed s e p
  unfolding bracketed flat
  bracketed_flat (cite t) p = refl
  bracketed_flat (Then es) p = refl
  bracketed_flat (join o es) p = refl

  operand_flat : (e : Expr) → print s (flat e) ≡ print s e → operand s (flat e) ≡ operand s e
  operand_flat e h = rw (bracketed_flat e (print s (flat e)), h)

  mutual
    unfolding print flat

    -- the flat tree prints alike
    pub print_flat : (e : Expr) → Wide e → print s (flat e) ≡ print s e
    print_flat (cite t) r = refl
    print_flat (Then es) r = listed_spliced es r.1
    print_flat (join o es) r = listed_flats (s.sign o) es r.1

    listed_spliced : (es : Exprs) → Wides es → listed s s.gap (spliced es) ≡ listed s s.gap es
    listed_spliced none r = refl
    listed_spliced (more e es) r =
        listed_append s.gap (operands (flat e)) (spliced es) (some_operands e r.0)
        ∙ rw (listed_operands (flat e), operand_flat e (print_flat e r.0), links_spliced es r.1)

    links_spliced : (es : Exprs) → Wides es → links s s.gap (spliced es) ≡ links s s.gap es
    links_spliced none r = refl
    links_spliced (more e es) r =
        links_append s.gap (operands (flat e)) (spliced es)
        ∙ rw (links_listed s.gap (operands (flat e)) (some_operands e r.0), listed_operands (flat e), operand_flat e (print_flat e r.0), links_spliced es r.1)
        (append_assoc s.gap (operand s e) (links s s.gap es))

    listed_flats : (sep : List A) (es : Exprs) → Wides es → listed s sep (flats es) ≡ listed s sep es
    listed_flats sep none r = refl
    listed_flats sep (more e es) r = rw (operand_flat e (print_flat e r.0), links_flats sep es r.1)

    links_flats : (sep : List A) (es : Exprs) → Wides es → links s sep (flats es) ≡ links s sep es
    links_flats sep none r = refl
    links_flats sep (more e es) r = rw (operand_flat e (print_flat e r.0), links_flats sep es r.1)
