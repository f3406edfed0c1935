-- Rows that stand in the scratch: one operand more, a node's own row, and without it. Assumes nothing.
use mathlib.Core.Path.{◌≡◌, refl, sym, ap, ◌∙◌}
use mathlib.Core.List.{List, [], ◌∷◌, ◌++◌, append_assoc}
use Prim.Native.Nat.{ℕ, suc, ◌+◌, ◌-◌, ◌≤◌, ◌<◌}
use native.Mathlib.Numerals.{add-one}
use native.Mathlib.Omega.{arith}
use lib.ListN.{length, get_or, take, set, length-append, length-set}
use lib.Seq.{take-take, take_at, take-suc-set, take-set-le, length-take-le, get_or-take, get_or_at}
use Rattle.grammar.specs.Expr.{Expr, Exprs, cite, none, ◌◂◌, ◌▸◌, citations_of, count}
use Rattle.grammar.specs.Rows.{span, spans, children}
use Rattle.grammar.specs.declared.NodeKind.{NodeKind}
use Rattle.grammar.specs.declared.NodeKind.TheVariants.{Citation}
use Rattle.parser.specs.Packed.{pack, node_row, postorder, postorders}
use Rattle.parser.specs.States.{Held, Front}
use Rattle.parser.specs.declared.Row.{Row}
use Rattle.parser.proofs.Orders.{postorder_spans, spans_append, cites_append, postorders_append, postorder_one, span_one, count_one, cite_span, cite_count, Root, root}

-- less of what was there
pub front_less : (m n : ℕ) (old new : List Row) → m ≤ n → Front n old new → Front m old new
front_less m n old new h f = sym (take-take m n new h) ∙ ap (take m) f ∙ take-take m n old h

pub front_set : (n : ℕ) (old : List Row) (i : ℕ) (v : Row) → n ≤ i → Front n old (set old i v)
front_set n old i v h = take-set-le n old i v h

module _ (start first : ℕ) (work : List Row) where
  -- a citation's row
  pub held_cite : (t : List ℕ) (v : Row) → start < length work → v ≡ pack Citation first 1 → Held start first (set work start v) (start + 1) (first + 1) (cite t ◂ none)
  unfolding postorder
  held_cite t v h e = record {
    fits = rw (length-set work start v) (omega arith);
    sized = ap (λ x. start + x) (sym (cite_span t));
    counted = ap (λ x. first + x) (sym (cite_count t));
    rowed = rw (add-one start) (take-suc-set work start v h)
        ∙ ap (λ x. take start work ++ (x ∷ [])) e
        ∙ ap (λ x. x ++ (pack Citation first 1 ∷ [])) (sym (take-set-le start work start v (omega arith)));
  }

  module _ (rows cites : ℕ) (es : Exprs) (h : Held start first work rows cites es) where
    -- one operand more
    pub held_more : (new : List Row) (rows' cites' : ℕ) (e : Expr) → Held rows cites new rows' cites' (e ◂ none) → Front rows work new
        → Held start first new rows' cites' (es ▸ e)
    held_more new rows' cites' e k f = record {
      fits = k.fits;
      sized = omega (arith, h.sized, k.sized, spans_append es (e ◂ none));
      counted = omega (arith, h.counted, k.counted, cites_append es (e ◂ none));
      rowed = k.rowed
          ∙ ap (λ x. x ++ postorders cites (e ◂ none)) (f ∙ h.rowed ∙ ap (λ x. x ++ postorders first es) (sym (front_less start rows work new (omega (arith, h.sized)) f)))
          ∙ append_assoc (take start new) (postorders first es) (postorders cites (e ◂ none))
          ∙ ap (λ x. take start new ++ x) (ap (λ c. postorders first es ++ postorders c (e ◂ none)) h.counted ∙ sym (postorders_append first es (e ◂ none)));
    }

    -- the row of the node of these operands
    pub held_node : (k : NodeKind) (v : Row) (e : Expr) → rows < length work → v ≡ node_row k es → postorder first e ≡ postorders first es ++ (node_row k es ∷ [])
        → span e ≡ suc (spans es) → count e ≡ length (citations_of es)
        → Held start first (set work rows v) (rows + 1) cites (e ◂ none)
    held_node k v e l q p z c = record {
      fits = rw (length-set work rows v) (omega arith);
      sized = omega (arith, h.sized, z, span_one e);
      counted = omega (arith, h.counted, c, count_one e);
      rowed = rw (add-one rows) (take-suc-set work rows v l)
          ∙ ap (λ x. x ++ (v ∷ [])) (h.rowed ∙ ap (λ x. x ++ postorders first es) (sym (take-set-le start work rows v (omega (arith, h.sized)))))
          ∙ append_assoc (take start (set work rows v)) (postorders first es) (v ∷ [])
          ∙ ap (λ x. take start (set work rows v) ++ x) (ap (λ x. postorders first es ++ (x ∷ [])) q ∙ sym p ∙ sym (postorder_one first e));
    }

  -- a tree's own row, and its operands without it
  module _ (rows cites : ℕ) (e : Expr) (h : Held start first work rows cites (e ◂ none)) where
    abbrev r : Root first e
    r = root first e

    split : take rows work ≡ take start work ++ (postorders first (children e) ++ (r.value ∷ []))
    split = h.rowed ∙ ap (λ x. take start work ++ x) (postorder_one first e ∙ r.after)

    begins : length (take start work) ≡ start
    begins = length-take-le start work (omega (arith, h.fits, h.sized))

    high : rows ≡ start + spans (children e) + 1
    high = omega (arith, h.sized, span_one e, r.sized)

    before : length (take start work ++ postorders first (children e)) ≡ rows - 1
    before = length-append (take start work) (postorders first (children e)) ∙ omega (arith, begins, high, postorder_spans first (children e))

    joined : take rows work ≡ (take start work ++ postorders first (children e)) ++ (r.value ∷ [])
    joined = split ∙ sym (append_assoc (take start work) (postorders first (children e)) (r.value ∷ []))

    pub held_children : Held start first work (rows - 1) (first + length (citations_of (children e))) (children e)
    held_children = record {
      fits = omega (arith, h.fits);
      sized = omega (arith, high);
      counted = refl;
      rowed = sym (take-take (rows - 1) rows work (omega arith)) ∙ ap (take (rows - 1)) joined
          ∙ take_at (take start work ++ postorders first (children e)) (r.value ∷ []) (rows - 1) before;
    }

    pub held_root : get_or work (rows - 1) (pack Citation 0 0) ≡ r.value
    held_root =
        sym (get_or-take rows work (rows - 1) (pack Citation 0 0) (omega (arith, high)))
        ∙ ap (λ x. get_or x (rows - 1) (pack Citation 0 0)) joined
        ∙ get_or_at (take start work ++ postorders first (children e)) r.value [] (pack Citation 0 0) (rows - 1) before

  -- the trees before the last, and the last
  module _ (rows cites : ℕ) (es : Exprs) (e : Expr) (h : Held start first work rows cites (es ▸ e)) where
    abbrev mid : ℕ
    mid = start + spans es

    abbrev next : ℕ
    next = first + length (citations_of es)

    all : rows ≡ mid + span e
    all = omega (arith, h.sized, spans_append es (e ◂ none), span_one e)

    parts : take rows work ≡ (take start work ++ postorders first es) ++ postorders next (e ◂ none)
    parts = h.rowed ∙ ap (λ x. take start work ++ x) (postorders_append first es (e ◂ none)) ∙ sym (append_assoc (take start work) (postorders first es) (postorders next (e ◂ none)))

    first-parts : length (take start work ++ postorders first es) ≡ mid
    first-parts =
        length-append (take start work) (postorders first es)
        ∙ omega (arith, length-take-le start work (omega (arith, h.fits, all)), postorder_spans first es)

    up_to_mid : take mid work ≡ take start work ++ postorders first es
    up_to_mid =
        sym (take-take mid rows work (omega (arith, all))) ∙ ap (take mid) parts
        ∙ take_at (take start work ++ postorders first es) (postorders next (e ◂ none)) mid first-parts

    pub held_before : Held start first work mid next es
    held_before = record { fits = omega (arith, h.fits, all); sized = refl; counted = refl; rowed = up_to_mid }

    pub held_last : Held mid next work rows cites (e ◂ none)
    held_last = record {
      fits = h.fits;
      sized = omega (arith, all, span_one e);
      counted = omega (arith, h.counted, cites_append es (e ◂ none));
      rowed = parts ∙ ap (λ x. x ++ postorders next (e ◂ none)) (sym up_to_mid);
    }
