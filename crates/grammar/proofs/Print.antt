-- The printed form, and one induction over it. Assumes nothing.
use Rattle.std.specs.Prelude.{List, ◌++◌}
use Rattle.grammar.specs.Expr.{Expr, Exprs, cite, Then, join, none, more, citations, citations_of}
use Rattle.grammar.specs.Citable.{AllCitable}
use Rattle.grammar.proofs.Citable.{all_left, all_right}
use Rattle.grammar.specs.Print.{Style, bracketed, print, listed, links, operand, Related}

module _ {A B : Type 0} (s : Style A) (s' : Style B) (R : List A → List B → Type 0) (r : Related s s' R) where
  related_bracketed : (e : Expr) (p : List A) (p' : List B) → R p p' → R (bracketed s e p) (bracketed s' e p')
  unfolding bracketed
  related_bracketed (cite t) p p' h = h
  related_bracketed (Then es) p p' h = h
  related_bracketed (join o es) p p' h = r.both _ _ _ _ r.left (r.both _ _ _ _ h r.right)

  mutual
    unfolding print citations

    -- the prints in two styles are related as their parts are
    pub print_related : (e : Expr) → AllCitable (citations e) → R (print s e) (print s' e)
    print_related (cite t) h = r.word t h.0
    print_related (Then es) h = related_listed s.gap s'.gap r.gap es h
    print_related (join o es) h = related_listed (s.sign o) (s'.sign o) (r.sign o) es h

    related_listed : (sep : List A) (sep' : List B) → R sep sep' → (es : Exprs) → AllCitable (citations_of es) → R (listed s sep es) (listed s' sep' es)
    related_listed sep sep' k none h = r.nil
    related_listed sep sep' k (more e es) h =
        r.both (operand s e) (links s sep es) (operand s' e) (links s' sep' es)
        (related_bracketed e (print s e) (print s' e) (print_related e (all_left (citations e) (citations_of es) h)))
        (related_links sep sep' k es (all_right (citations e) (citations_of es) h))

    related_links : (sep : List A) (sep' : List B) → R sep sep' → (es : Exprs) → AllCitable (citations_of es) → R (links s sep es) (links s' sep' es)
    related_links sep sep' k none h = r.nil
    related_links sep sep' k (more e es) h =
        r.both sep (operand s e ++ links s sep es) sep' (operand s' e ++ links s' sep' es) k
        (r.both (operand s e) (links s sep es) (operand s' e) (links s' sep' es)
        (related_bracketed e (print s e) (print s' e) (print_related e (all_left (citations e) (citations_of es) h)))
        (related_links sep sep' k es (all_right (citations e) (citations_of es) h)))
