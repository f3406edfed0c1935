-- The loops over a node's operands: marking, mixing, evaluating. Assumes nothing.
use Rattle.std.specs.Prelude.{Ok, Err}
use mathlib.Core.Path.{◌≡◌, refl, sym, ap, ◌∙◌, subst}
use mathlib.Core.List.{List, [], ◌++◌, append_assoc, append-nil}
use mathlib.Core.Bool.{Bool, true, false, ◌&&◌, ◌||◌, or-false, or-true, or_assoc, false≢true}
use Prim.Native.Nat.{ℕ, zero, suc, ◌+◌, ◌-◌, ◌≤◌, ◌<◌}
use native.Mathlib.Omega.{arith}
use lib.Dec.{eqb}
use lib.ListN.{get_or}
use borrow.Author.Tests.{eqb-true, eqb-false}
use Rattle.refusal.specs.declared.Refusal.{Refusal}
use Rattle.refusal.specs.declared.Refusal.TheVariants.{ChoiceOverNeutral}
use Rattle.citation.specs.declared.Truth.{Truth}
use Rattle.citation.specs.Kinds.{kind_of}
use Rattle.grammar.specs.Expr as expr
use Rattle.grammar.specs.Expr.{Expr, Exprs, cite, join, none, ◌◂◌, citations, citations_of, count}
use Rattle.grammar.specs.Rows.{span, firsts, children}
use Rattle.grammar.specs.Bytes.{nodes, is_tree, forest_at, tree_at}
use Rattle.grammar.specs.Kinds.{node_kind}
use Rattle.grammar.specs.declared.NodeKind.{NodeKind}
use Rattle.grammar.specs.declared.NodeKind.TheVariants.{Citation}
use Rattle.tree.specs.Walk.{number_at, first_at, text_at}
use Rattle.tree.proofs.Walks.{Walk, leaf, children-at, first_below, walk_begins, walk_next, firsts_end, first_next}
use Rattle.semantics.specs.Presence.{some_gate_with, some_free_with, presence_with, dropped, some_gate, some_free, mixes, presence, values, oracle_of}
use Rattle.presence.specs.declared.Mark.{Mark}
use Rattle.presence.specs.declared.Mark.TheVariants.{Dropped}
use Rattle.presence.specs.Marks.{mark_of_kind, mark_of, larger, is_dropped, is_kept, is_gating, choosing, choice_among, Marked, Ready}
use Rattle.presence.specs.declared.Tally.{Tally}
use Rattle.presence.specs.Tallies.{no_tally, added, ruled, finished}
use Rattle.presence.proofs.Marks.{mark_append, mark_none, mark_one, mark_drop, mark_gate, mark_free}
use Rattle.presence.proofs.Tallies.{node-begins, node-mixes, node-ends, node_drops, node_refused, node_adds}

cites-inner : (e : Expr) → (node_kind e ≡ Citation → ⊥) → citations e ≡ citations_of (children e)
unfolding node_kind children citations
cites-inner (cite t) h = absurd (h refl)
cites-inner (expr.Then es) h = refl
cites-inner (join o es) h = refl

module _ (b : List ℕ) (tree : is_tree b ≡ true) where
  -- the mark of a citation's row
  pub mark_leaf : (row : ℕ) → row < nodes b → node_kind (tree_at b row) ≡ Citation → (n : ℕ) → n ≡ number_at b row → mark_of_kind (kind_of (text_at b n)) ≡ mark_of (citations (tree_at b row))
  unfolding citations
  mark_leaf row l k n e = let f = leaf b tree row l k in rw (f.is, e) (sym (mark_one (text_at b (number_at b row))))

-- marking: the mark of the citations that are done, and the operands that are left
pub record Marking (b : List ℕ) (row left child : ℕ) (mark : Mark) : Type 0 where
  pub done : List (List ℕ)
  pub whole : citations (tree_at b row) ≡ done ++ citations_of (firsts left (forest_at b child))
  pub says : mark ≡ mark_of done
  pub walk : Walk b row left child
  pub after : row < child

pub marking_from : {b : List ℕ} {row left from child : ℕ} {mark : Mark} → Marking b row left from mark → child ≡ from → Marking b row left child mark
marking_from s e = rw e s

module _ (b : List ℕ) (tree : is_tree b ≡ true) where
  -- before the first operand
  pub marking_begins : (row n : ℕ) → row < nodes b → (node_kind (tree_at b row) ≡ Citation → ⊥) → n ≡ number_at b row → Marking b row n (row + 1) Dropped
  marking_begins row n l k e = subst (λ (x : ℕ). Marking b row x (row + 1) Dropped) (sym e) record {
    done = [];
    whole = cites-inner (tree_at b row) k ∙ ap citations_of (children-at b tree row l k).0;
    says = sym mark_none;
    walk = walk_begins b tree row l k;
    after = omega arith;
  }

  -- one operand more
  pub marking_turns : (marks : List Mark) (row left child : ℕ) (mark : Mark) → Marked b (row + 1) marks → Marking b row left child mark → 0 < left
      → (m : Mark) → m ≡ larger mark (get_or marks child Dropped) → Marking b row (left - 1) (child + span (tree_at b child)) m
  unfolding citations_of
  marking_turns marks row left child mark k s h m em =
      let n = walk_next b tree row left child s.walk h in
      let here : get_or marks child Dropped ≡ mark_of (citations (tree_at b child)) = k.says child (omega (arith, s.after)) n.inside in
      record {
        done = s.done ++ citations (tree_at b child);
        whole = s.whole ∙ ap (λ x. s.done ++ citations_of x) n.splits ∙ sym (append_assoc s.done (citations (tree_at b child)) _);
        says = em ∙ ap (λ x. larger x (get_or marks child Dropped)) s.says ∙ ap (larger (mark_of s.done)) here ∙ mark_append s.done (citations (tree_at b child));
        walk = n.walk;
        after = omega (arith, s.after);
      }

-- after the last operand
pub marking_ends : (b : List ℕ) (row left child : ℕ) (mark : Mark) → Marking b row left child mark → left ≤ 0 → mark ≡ mark_of (citations (tree_at b row))
unfolding citations_of
marking_ends b row left child mark s h =
    s.says ∙ ap mark_of (sym (s.whole ∙ ap (λ x. s.done ++ citations_of x) (firsts_end left (forest_at b child) h) ∙ append-nil s.done))

-- a citation's row is no choice's
pub no_choice : (k : NodeKind) → k ≡ Citation → choosing k ≡ true → ⊥
no_choice k e h = false≢true (sym (ap choosing e) ∙ h)

-- no row
pub among_none : (b : List ℕ) (n : ℕ) → n ≤ 0 → choice_among b n ≡ false
unfolding choice_among
among_none b zero h = refl
among_none b (suc n) h = absurd (omega arith)

among_more : (b : List ℕ) (n : ℕ) → choice_among b (suc n) ≡ (choosing (node_kind (tree_at b n)) || choice_among b n)
unfolding choice_among
among_more b n = refl

-- a row that is no choice's
pub among_pass : (b : List ℕ) (row n : ℕ) (k : NodeKind) → n ≡ row + 1 → k ≡ node_kind (tree_at b row) → choosing k ≡ false → choice_among b row ≡ choice_among b n
among_pass b row n k e ek h =
    let s : n ≡ suc row = omega arith in
    sym (ap (choice_among b) s ∙ among_more b row ∙ ap (λ x. x || choice_among b row) (ap choosing (sym ek) ∙ h))

-- a choice's row
pub among_met : (b : List ℕ) (row n : ℕ) (k : NodeKind) → row < n → k ≡ node_kind (tree_at b row) → choosing k ≡ true → choice_among b n ≡ true
among_met b row zero k l ek h = absurd (omega arith)
among_met b row (suc n) k l ek h = among_more b n ∙ by (eqb row n) refl (λ p. among_met b row n k p ek h)
  where
    by : (t : Bool) → eqb row n ≡ t → (row < n → choice_among b n ≡ true) → (choosing (node_kind (tree_at b n)) || choice_among b n) ≡ true
    by true t f =
        let same : n ≡ row = sym (eqb-true row n t) in
        ap (λ x. x || choice_among b n) (ap (λ (x : ℕ). choosing (node_kind (tree_at b x))) same ∙ ap choosing (sym ek) ∙ h)
    by false t f =
        let no : (row ≡ n → ⊥) = eqb-false row n t in
        ap (λ x. choosing (node_kind (tree_at b n)) || x) (f (omega (arith, no, l))) ∙ or-true (choosing (node_kind (tree_at b n)))

-- at a choice's row the rows are marked
pub ready_marked : (b : List ℕ) (marks : List Mark) (row : ℕ) (kind : NodeKind) → Ready b marks → row < nodes b → kind ≡ node_kind (tree_at b row) → choosing kind ≡ true → Marked b 0 marks
ready_marked b marks row kind r l e h = r.marked (among_met b row (nodes b) kind l e h)

-- mixing: what was found among the operands that are done, and the operands that are left
pub record Mixing (b : List ℕ) (row left child : ℕ) (gate free : Bool) : Type 0 where
  pub gating : some_gate (children (tree_at b row)) ≡ gate || some_gate (firsts left (forest_at b child))
  pub freeing : some_free (children (tree_at b row)) ≡ free || some_free (firsts left (forest_at b child))
  pub walk : Walk b row left child
  pub after : row < child

pub mixing_from : {b : List ℕ} {row left from child : ℕ} {gate free : Bool} → Mixing b row left from gate free → child ≡ from → Mixing b row left child gate free
mixing_from s e = rw e s

gate_more : (e : Expr) (es : Exprs) (m : Mark) → m ≡ mark_of (citations e) → some_gate (e ◂ es) ≡ is_gating m || some_gate es
unfolding some_gate_with
gate_more e es m h = rw (h, mark_gate (citations e))

free_more : (e : Expr) (es : Exprs) (m : Mark) → m ≡ mark_of (citations e) → some_free (e ◂ es) ≡ is_kept m || some_free es
unfolding some_free_with
free_more e es m h = rw (h, mark_free (citations e))

module _ (b : List ℕ) (tree : is_tree b ≡ true) where
  -- before the first operand
  pub mixing_begins : (row n : ℕ) → row < nodes b → (node_kind (tree_at b row) ≡ Citation → ⊥) → n ≡ number_at b row → Mixing b row n (row + 1) false false
  mixing_begins row n l k e = subst (λ (x : ℕ). Mixing b row x (row + 1) false false) (sym e) record {
    gating = ap some_gate (children-at b tree row l k).0;
    freeing = ap some_free (children-at b tree row l k).0;
    walk = walk_begins b tree row l k;
    after = omega arith;
  }

  -- one operand more
  pub mixing_turns : (marks : List Mark) (row left child : ℕ) (gate free : Bool) → Marked b 0 marks → Mixing b row left child gate free → 0 < left
      → (g f : Bool) → g ≡ gate || is_gating (get_or marks child Dropped) → f ≡ free || is_kept (get_or marks child Dropped)
      → Mixing b row (left - 1) (child + span (tree_at b child)) g f
  mixing_turns marks row left child gate free k s h g f eg ef =
      let n = walk_next b tree row left child s.walk h in
      let m = get_or marks child Dropped in
      let rest = firsts (left - 1) (forest_at b (child + span (tree_at b child))) in
      let here : m ≡ mark_of (citations (tree_at b child)) = k.says child (omega arith) n.inside in
      record {
        gating = s.gating ∙ ap (λ x. gate || some_gate x) n.splits ∙ ap (λ x. gate || x) (gate_more (tree_at b child) rest m here) ∙ sym (or_assoc gate (is_gating m) (some_gate rest)) ∙ ap (λ x. x || some_gate rest) (sym eg);
        freeing = s.freeing ∙ ap (λ x. free || some_free x) n.splits ∙ ap (λ x. free || x) (free_more (tree_at b child) rest m here) ∙ sym (or_assoc free (is_kept m) (some_free rest)) ∙ ap (λ x. x || some_free rest) (sym ef);
        walk = n.walk;
        after = omega (arith, s.after);
      }

mixing_ends : (b : List ℕ) (row left child : ℕ) (gate free : Bool) → Mixing b row left child gate free → left ≤ 0 → gate && free ≡ mixes (children (tree_at b row))
unfolding some_gate_with some_free_with
mixing_ends b row left child gate free s h =
    let none_left = firsts_end left (forest_at b child) h in
    let g : some_gate (children (tree_at b row)) ≡ gate = s.gating ∙ ap (λ x. gate || some_gate x) none_left ∙ or-false gate in
    let f : some_free (children (tree_at b row)) ≡ free = s.freeing ∙ ap (λ x. free || some_free x) none_left ∙ or-false free in
    rw (g, f)

-- after the last operand, one that gates being found
pub mixing_gated : (b : List ℕ) (row left child : ℕ) (gate free : Bool) → Mixing b row left child gate free → left ≤ 0 → gate ≡ true → free ≡ mixes (children (tree_at b row))
mixing_gated b row left child gate free s h t = ap (λ x. x && free) (sym t) ∙ mixing_ends b row left child gate free s h

-- after the last operand, none being found
pub mixing_open : (b : List ℕ) (row left child : ℕ) (gate free : Bool) → Mixing b row left child gate free → left ≤ 0 → gate ≡ false → gate ≡ mixes (children (tree_at b row))
mixing_open b row left child gate free s h t = t ∙ ap (λ x. x && free) (sym t) ∙ mixing_ends b row left child gate free s h

-- evaluating: the values that were met, and the operands that are left
pub record Evaluating (b answers : List ℕ) (kind : NodeKind) (row left child : ℕ) (tally : Tally) : Type 0 where
  pub whole : presence (oracle_of answers) (first_at b row) (tree_at b row)
      ≡ finished kind tally (values (oracle_of answers) (choosing kind) (first_at b child) (firsts left (forest_at b child)))
  pub walk : Walk b row left child
  pub after : row < child

pub evaluating_from : {b answers : List ℕ} {kind : NodeKind} {row left from child : ℕ} {tally : Tally} → Evaluating b answers kind row left from tally → child ≡ from → Evaluating b answers kind row left child tally
evaluating_from s e = rw e s

module _ (b answers : List ℕ) (tree : is_tree b ≡ true) where
  -- before the first operand of a node that does not mix
  pub evaluating_begins : (row : ℕ) (kind : NodeKind) (n : ℕ) → row < nodes b → kind ≡ node_kind (tree_at b row) → (kind ≡ Citation → ⊥) → n ≡ number_at b row
      → (choosing kind && mixes (children (tree_at b row))) ≡ false → (t : Tally) → t ≡ no_tally → Evaluating b answers kind row n (row + 1) t
  evaluating_begins row kind n l ek k0 en h t et =
      let k : node_kind (tree_at b row) ≡ Citation → ⊥ = λ q. k0 (ek ∙ q) in
      let o = oracle_of answers in
      let e = tree_at b row in
      record {
        whole =
            node-begins o (first_at b row) e k (ap (λ x. choosing x && mixes (children e)) (sym ek) ∙ h)
            ∙ ap (λ x. finished x no_tally (values o (choosing x) (first_at b row) (children e))) (sym ek)
            ∙ ap (λ x. finished kind x (values o (choosing kind) (first_at b row) (children e))) (sym et)
            ∙ ap (λ (x : ℕ). finished kind t (values o (choosing kind) x (children e))) (sym (first_below b tree row l k))
            ∙ ap (λ x. finished kind t (values o (choosing kind) (first_at b (row + 1)) x)) (children-at b tree row l k).0
            ∙ ap (λ (x : ℕ). finished kind t (values o (choosing kind) (first_at b (row + 1)) (firsts x (forest_at b (row + 1))))) (sym en);
        walk = subst (λ (x : ℕ). Walk b row x (row + 1)) (sym en) (walk_begins b tree row l k);
        after = omega arith;
      }

  module _ (kind : NodeKind) (row left child : ℕ) (t : Tally) (s : Evaluating b answers kind row left child t) (h : 0 < left) where
    -- the operand that is next, and those after it
    cut : presence (oracle_of answers) (first_at b row) (tree_at b row)
        ≡ finished kind t (values (oracle_of answers) (choosing kind) (first_at b child) (tree_at b child ◂ firsts (left - 1) (forest_at b (child + span (tree_at b child)))))
    cut = s.whole ∙ ap (λ x. finished kind t (values (oracle_of answers) (choosing kind) (first_at b child) x)) (walk_next b tree row left child s.walk h).splits

    on : (u : Tally) → finished kind u (values (oracle_of answers) (choosing kind) (first_at b child + count (tree_at b child)) (firsts (left - 1) (forest_at b (child + span (tree_at b child)))))
        ≡ finished kind u (values (oracle_of answers) (choosing kind) (first_at b (child + span (tree_at b child))) (firsts (left - 1) (forest_at b (child + span (tree_at b child)))))
    on u = ap (λ (x : ℕ). finished kind u (values (oracle_of answers) (choosing kind) x (firsts (left - 1) (forest_at b (child + span (tree_at b child))))))
        (first_next b tree child (walk_next b tree row left child s.walk h).inside)

    onward : (u : Tally) → presence (oracle_of answers) (first_at b row) (tree_at b row)
        ≡ finished kind u (values (oracle_of answers) (choosing kind) (first_at b child + count (tree_at b child)) (firsts (left - 1) (forest_at b (child + span (tree_at b child)))))
        → Evaluating b answers kind row (left - 1) (child + span (tree_at b child)) u
    onward u e =
        let n = walk_next b tree row left child s.walk h in
        record {
          whole = e ∙ on u;
          walk = n.walk;
          after = omega (arith, s.after);
        }

    -- what the mark says of the operand
    by_mark : (marks : List Mark) → (choosing kind ≡ true → Marked b 0 marks) → (x : Bool) → (choosing kind && is_dropped (get_or marks child Dropped)) ≡ x → (choosing kind && dropped (tree_at b child)) ≡ x
    by_mark marks k x e = by (choosing kind) refl
      where
        by : (c : Bool) → choosing kind ≡ c → (choosing kind && dropped (tree_at b child)) ≡ x
        by true q =
            ap (λ y. choosing kind && y) (sym (ap is_dropped ((k q).says child (omega arith) (walk_next b tree row left child s.walk h).inside) ∙ mark_drop (citations (tree_at b child)))) ∙ e
        by false q = ap (λ y. y && dropped (tree_at b child)) q ∙ sym (ap (λ y. y && is_dropped (get_or marks child Dropped)) q) ∙ e

    -- the operand is passed over
    pub evaluating_drops : (marks : List Mark) → (choosing kind ≡ true → Marked b 0 marks) → (choosing kind && is_dropped (get_or marks child Dropped)) ≡ true
        → Evaluating b answers kind row (left - 1) (child + span (tree_at b child)) t
    evaluating_drops marks k e = onward t (cut ∙ node_drops (oracle_of answers) kind t (choosing kind) (first_at b child) (tree_at b child) _ (by_mark marks k true e))

    module _ (marks : List Mark) (k : choosing kind ≡ true → Marked b 0 marks) (e : (choosing kind && is_dropped (get_or marks child Dropped)) ≡ false) where
      -- the operand has a value
      pub evaluating_adds : (v : Truth) (u : Tally) → presence (oracle_of answers) (first_at b child) (tree_at b child) ≡ Ok v → u ≡ added t v
          → Evaluating b answers kind row (left - 1) (child + span (tree_at b child)) u
      evaluating_adds v u p eu =
          subst (λ x. Evaluating b answers kind row (left - 1) (child + span (tree_at b child)) x) (sym eu)
          (onward (added t v) (cut ∙ node_adds (oracle_of answers) kind t (choosing kind) (first_at b child) (tree_at b child) _ v (by_mark marks k false e) p))

      -- the operand is turned back
      pub evaluating_stops : (why : Refusal) → presence (oracle_of answers) (first_at b child) (tree_at b child) ≡ Err why
          → Err why ≡ presence (oracle_of answers) (first_at b row) (tree_at b row)
      evaluating_stops why p = sym (cut ∙ node_refused (oracle_of answers) kind t (choosing kind) (first_at b child) (tree_at b child) _ why (by_mark marks k false e) p)

-- after the last operand
pub evaluating_ends : (b answers : List ℕ) (kind : NodeKind) (row left child : ℕ) (t : Tally) → Evaluating b answers kind row left child t → left ≤ 0
    → Ok (ruled kind t) ≡ presence (oracle_of answers) (first_at b row) (tree_at b row)
evaluating_ends b answers kind row left child t s h =
    sym (s.whole
    ∙ ap (λ x. finished kind t (values (oracle_of answers) (choosing kind) (first_at b child) x)) (firsts_end left (forest_at b child) h)
    ∙ node-ends (oracle_of answers) kind t (choosing kind) (first_at b child))

-- a citation's row has the oracle's answer
pub leaf_answer : (b answers : List ℕ) → is_tree b ≡ true → (row : ℕ) → row < nodes b → node_kind (tree_at b row) ≡ Citation → (n : ℕ) → n ≡ number_at b row
    → oracle_of answers n ≡ presence (oracle_of answers) (first_at b row) (tree_at b row)
unfolding presence_with
leaf_answer b answers tree row l k n e = let f = leaf b tree row l k in rw (f.is, ← f.first, e)

-- a choice that mixes, before any operand is evaluated
pub mixed_answer : (b answers : List ℕ) (row : ℕ) (kind : NodeKind) → kind ≡ node_kind (tree_at b row) → (choosing kind && mixes (children (tree_at b row))) ≡ true
    → Err ChoiceOverNeutral ≡ presence (oracle_of answers) (first_at b row) (tree_at b row)
mixed_answer b answers row kind e h =
    sym (node-mixes (oracle_of answers) (first_at b row) (tree_at b row) (ap (λ x. choosing x && mixes (children (tree_at b row))) (sym e) ∙ h))
