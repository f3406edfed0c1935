-- From postorder to the order of the tree: the last tree and those before it. Assumes nothing.
use mathlib.Core.Path.{◌≡◌, refl, sym, ap, ◌∙◌, subst}
use mathlib.Core.List.{List, [], ◌∷◌, ◌++◌, append_assoc}
use Prim.Native.Nat.{ℕ, suc, ◌+◌, ◌-◌, ◌≤◌, ◌<◌}
use native.Mathlib.Omega.{arith}
use lib.ListN.{length, get_or, take, drop, set, take-append-drop}
use lib.Seq.{take-take, drop_at, take-suc-set, take-append-le, drop-set-lt, length-take-le}
use Rattle.grammar.specs.Expr.{Expr, Exprs, none, more, ◌◂◌, ◌▸◌, citations_of, count}
use Rattle.grammar.specs.Rows.{many, rows, rows_of, span, spans, children}
use Rattle.grammar.specs.Shape.{rows_append}
use Rattle.grammar.specs.declared.NodeKind.TheVariants.{Citation}
use Rattle.parser.specs.Packed.{pack, packed, child_count}
use Rattle.parser.specs.States.{Held, Stand, Placed}
use Rattle.parser.specs.declared.Row.{Row}
use Rattle.parser.proofs.Orders.{spans_append, packed_append, rows_one, span_one, Last, last_of, Root, root}
use Rattle.parser.proofs.Holding.{held_children, held_root, held_before, held_last}

-- nothing to place
none_left : (es : Exprs) → many es ≡ 0 → es ≡ none
unfolding many
none_left none h = refl
none_left (more e es) h = absurd (omega arith)

nothing : (n end : ℕ) (old : List Row) → old ≡ take (end - spans none) old ++ (packed (rows_of n none) ++ drop end old)
unfolding spans packed rows
nothing n end old = let z : end - 0 ≡ end = omega arith in rw z (sym (take-append-drop end old))

pub place_none : (work : List Row) (top count end : ℕ) (old : List Row) → count ≡ 0 → Placed work top count end old old
place_none work top count end old z = record {
  is = λ t. nothing t.first end old
      ∙ ap (λ es. take (end - spans es) old ++ (packed (rows_of t.first es) ++ drop end old)) (sym (none_left t.trees (t.number ∙ z)));
}

module _ (work : List Row) (top m end : ℕ) (t : Stand work top m end) (some : ¬ (m ≡ 0)) where
  abbrev cut : Last t.trees
  cut = last_of t.trees (omega (arith, t.number))

  abbrev fs : Exprs
  fs = cut.before

  abbrev e : Expr
  e = cut.last

  abbrev mid : ℕ
  mid = t.start + spans fs

  abbrev next : ℕ
  next = t.first + length (citations_of fs)

  both : Held t.start t.first work top t.cites (fs ▸ e)
  both = subst (λ es. Held t.start t.first work top t.cites es) cut.is t.held

  before : Held t.start t.first work mid next fs
  before = held_before t.start t.first work top t.cites fs e both

  last : Held mid next work top t.cites (e ◂ none)
  last = held_last t.start t.first work top t.cites fs e both

  abbrev r : Root next e
  r = root next e

  all : spans t.trees ≡ spans fs + span e
  all = ap spans cut.is ∙ spans_append fs (e ◂ none) ∙ ap (λ x. spans fs + x) (span_one e)

  top_is : top ≡ mid + span e
  top_is = omega (arith, last.sized, span_one e)

  value_is : get_or work (top - 1) (pack Citation 0 0) ≡ r.value
  value_is = held_root mid next work top t.cites e last

  size_is : r.value.size ≡ span e
  size_is = ap (λ (x : Row). x.size) r.is

  abbrev kids_of : Row → ℕ
  kids_of v = child_count v.kind v.number

  kids_is : kids_of r.value ≡ many (children e)
  kids_is = ap kids_of r.is ∙ r.counts

  module _ (row : Row) (z kids : ℕ) (row_is : row ≡ get_or work (top - 1) (pack Citation 0 0)) (z-is : z ≡ row.size) (kids-are : kids ≡ kids_of row) where
    row-value : row ≡ r.value
    row-value = row_is ∙ value_is

    size : z ≡ span e
    size = z-is ∙ ap (λ (x : Row). x.size) row-value ∙ size_is

    pub size_fits : (1 ≤ z) × (z ≤ end) × (z ≤ top)
    size_fits = (omega (arith, size, r.sized), omega (arith, size, all, t.fits), omega (arith, size, top_is))

    abbrev stand_children : Stand work (top - 1) kids end
    stand_children = record {
      trees = children e;
      start = mid;
      first = next;
      cites = next + length (citations_of (children e));
      held = held_children mid next work top t.cites e last;
      number = sym (kids-are ∙ ap kids_of row-value ∙ kids_is);
      fits = omega (arith, all, t.fits, r.sized);
    }

    abbrev stand_before : Stand work (top - z) (m - 1) (end - z)
    stand_before = record {
      trees = fs;
      start = t.start;
      first = t.first;
      cites = next;
      held = subst (λ x. Held t.start t.first work x next fs) (omega (arith, top_is, size)) before;
      number = omega (arith, t.number, cut.number);
      fits = omega (arith, all, t.fits, size);
    }

    pub children-stand : Stand work (top - 1) kids end
    children-stand = stand_children

    pub before-stand : Stand work (top - z) (m - 1) (end - z)
    before-stand = stand_before

    module _ (old mids new : List Row) (room : end ≤ length old)
        (inner : Placed work (top - 1) kids end (set old (end - z) row) mids)
        (outer : Placed work (top - z) (m - 1) (end - z) mids new) where
      abbrev at : ℕ
      at = end - z

      abbrev below : List Row
      below = packed (rows_of next (children e))

      fitting : at < length old
      fitting = let f = size_fits in omega (arith, f.0, f.1)

      mids_are : mids ≡ take at old ++ (row ∷ (below ++ drop end old))
      mids_are =
          let f = size_fits in
          let a : end - spans (children e) ≡ suc at = omega (arith, size, r.sized, f.1) in
          inner.is stand_children
          ∙ ap (λ x. take x (set old at row) ++ (below ++ drop end (set old at row))) a
          ∙ ap (λ x. x ++ (below ++ drop end (set old at row))) (take-suc-set old at row fitting)
          ∙ ap (λ x. (take at old ++ (row ∷ [])) ++ (below ++ x)) (drop-set-lt end old at row (omega (arith, f.0, f.1)))
          ∙ append_assoc (take at old) (row ∷ []) (below ++ drop end old)

      at_long : length (take at old) ≡ at
      at_long = length-take-le at old (omega (arith, fitting))

      mids_front : (n : ℕ) → n ≤ at → take n mids ≡ take n old
      mids_front n h =
          ap (take n) mids_are ∙ take-append-le n (take at old) (row ∷ (below ++ drop end old)) (omega (arith, at_long)) ∙ take-take n at old h

      mids_back : drop at mids ≡ row ∷ (below ++ drop end old)
      mids_back = ap (drop at) mids_are ∙ drop_at (take at old) (row ∷ (below ++ drop end old)) at at_long

      own : packed (rows_of t.first t.trees) ≡ packed (rows_of t.first fs) ++ (row ∷ below)
      own =
          ap (λ es. packed (rows_of t.first es)) cut.is
          ∙ ap packed (rows_append fs (e ◂ none) t.first ∙ ap (λ x. rows_of t.first fs ++ x) (rows_one next e))
          ∙ packed_append (rows_of t.first fs) (rows next e)
          ∙ ap (λ x. packed (rows_of t.first fs) ++ x) (r.ahead ∙ ap (λ x. x ∷ below) (sym row-value))

      pub placed-all : new ≡ take (end - spans t.trees) old ++ (packed (rows_of t.first t.trees) ++ drop end old)
      placed-all =
          let f = size_fits in
          let n : at - spans fs ≡ end - spans t.trees = omega (arith, all, size) in
          outer.is stand_before
          ∙ ap (λ x. x ++ (packed (rows_of t.first fs) ++ drop at mids)) (mids_front (at - spans fs) (omega arith) ∙ ap (λ x. take x old) n)
          ∙ ap (λ x. take (end - spans t.trees) old ++ (packed (rows_of t.first fs) ++ x)) mids_back
          ∙ ap (λ x. take (end - spans t.trees) old ++ x) (sym (append_assoc (packed (rows_of t.first fs)) (row ∷ below) (drop end old)) ∙ ap (λ x. x ++ drop end old) (sym own))
