-- Judging: what citations count as, numbers listed and taken back, the walk over the rows, and what `verdicts` answers. Assumes nothing.
use Rattle.std.specs.Prelude.{Result, Ok, Err}
use mathlib.Core.Path.{◌≡◌, refl, sym, ap, ap₂, ◌∙◌, subst}
use mathlib.Core.List.{List, [], ◌∷◌, ◌++◌, append_assoc, append-nil}
use mathlib.Core.Logic.{◌⊎◌, inl, inr}
use mathlib.Core.Bool.{Bool, true, false, cond}
use Prim.Native.Nat.{ℕ, ◌+◌, ◌-◌, ◌*◌, ◌/◌, ◌≤◌, ◌<◌}
use native.Mathlib.Omega.{arith}
use lib.ListN.{length, get_or, take, length-append}
use lib.Seq.{length-take-le, take-take, take-append-le}
use Rattle.refusal.specs.Result.{unless, then, map_ok}
use Rattle.refusal.specs.declared.Refusal.{Refusal}
use Rattle.refusal.specs.declared.Refusal.TheVariants.{NotATree, NoRoom, WrongAnswers}
use lib.Dec.{leb}
use Rattle.utf8.specs.Utf8.{is_utf8}
use Rattle.utf8.specs.Limits.{value_limit, admitted}
use Rattle.citation.specs.declared.ConditionKind.{ConditionKind}
use Rattle.citation.specs.declared.ConditionKind.TheVariants.{Voraussetzung, Hinweis, Format, Wiederholbarkeit, Zeitpunkt, Paket, Other}
use Rattle.citation.specs.Kinds.{kind_of}
use Rattle.citation.specs.declared.Truth.{Truth}
use Rattle.citation.specs.declared.Truth.TheVariants.{False, Unknown, True, Neutral}
use Rattle.formats.specs.Table.{verdict}
use Rattle.formats.specs.Answers.{verdict_truth}
use Rattle.grammar.specs.Expr as expr
use Rattle.grammar.specs.Expr.{Expr, Exprs, cite, join, none, ◌◂◌, citations, count}
use Rattle.grammar.specs.Reading.{citation_limit}
use Rattle.grammar.specs.Rows.{span, firsts, children}
use Rattle.grammar.specs.Kinds.{node_kind, sign_kind}
use Rattle.grammar.specs.declared.NodeKind.{NodeKind}
use Rattle.grammar.specs.declared.NodeKind.TheVariants.{Citation}
use Rattle.grammar.specs.Bytes.{two_bytes, nodes, cites, is_tree, forest_at, tree_at}
use Rattle.grammar.specs.Outcome.{Outcome, answer_of, written_of}
use Rattle.grammar.proofs.Outcome.{answer_fits, written_fits, answer_short, written_short}
use Rattle.semantics.specs.Rules.{is_false}
use Rattle.semantics.specs.Truth.{is_judged, Counts, truth_with, truths_with, cited_truth, counts_on, truth}
use Rattle.semantics.specs.Violations.{fails, violations_with, violations_of, violations, number_bytes}
use Rattle.semantics.specs.Pairs as pairs
use Rattle.semantics.proofs.Pairs.{same_refl}
use Rattle.semantics.specs.Kept.{EachCited}
use Rattle.semantics.proofs.Kept.{truth_same, violations_same}
use Rattle.semantics.proofs.Sizes.{numbers_length, violations_few}
use Rattle.semantics.specs.Presence.{answers_fit}
use Rattle.semantics.specs.Answers.{presence_by, with_numbers, verdicts_outcome, verdicts_answer, admitted_presence, eval_and_truth_answer}
use Rattle.fields.specs.Appended.{Appended}
use Rattle.fields.proofs.Appends.{same, whole, two_size}
use Rattle.tree.specs.Walk.{number_at, first_at, text_at}
use Rattle.tree.proofs.Walks.{Walk, Next, leaf, root, no-tree, children-at, first_below, walk_begins, walk_next, firsts_end, first_next}
use denote.Enum.Bare.{sameb}
use Rattle.citation.specs.contracts.Truth.{the_type}
use Rattle.presence.specs.declared.Tally.{Tally}
use Rattle.presence.specs.Tallies.{no_tally, added, tallied}
use Rattle.presence.proofs.Tallies.{and_ruled, or_ruled, tallied_last, tallied_none}
use Rattle.verdicts.specs.declared.Judged.{Judged}
use Rattle.verdicts.specs.Tallies.{rule_of}
use Rattle.verdicts.specs.Judged.{counts_in, CitesJudged, ListedFrom, CitedJudged, RowJudged, TreeJudged}

other_kind : (k : ConditionKind) → (k ≡ Format → ⊥) → (k ≡ Zeitpunkt → ⊥) → is_judged k ≡ false
other_kind Voraussetzung f z = refl
other_kind Hinweis f z = refl
other_kind Format f z = absurd (f refl)
other_kind Wiederholbarkeit f z = refl
other_kind Zeitpunkt f z = absurd (z refl)
other_kind Paket f z = refl
other_kind Other f z = refl

-- not judged: True
pub cited_true : (value text : List ℕ) (k : ConditionKind) → (k ≡ Format → ⊥) → (k ≡ Zeitpunkt → ⊥) → k ≡ kind_of text → True ≡ cited_truth value text
unfolding cited_truth
cited_true value text k f z g = let no : is_judged (kind_of text) ≡ false = sym (ap is_judged g) ∙ other_kind k f z in rw no

judged_kind : (k : ConditionKind) → (k ≡ Format) ⊎ (k ≡ Zeitpunkt) → is_judged k ≡ true
judged_kind k (inl e) = ap is_judged e
judged_kind k (inr e) = ap is_judged e

-- judged: as the verdict counts
pub cited_judged : (value text : List ℕ) (k : ConditionKind) {t : Truth} → (k ≡ Format) ⊎ (k ≡ Zeitpunkt) → k ≡ kind_of text → t ≡ verdict_truth (verdict text value) → t ≡ cited_truth value text
unfolding cited_truth
cited_judged value text k e g h =
    let yes : is_judged (kind_of text) ≡ true = sym (ap is_judged g) ∙ judged_kind k e in
    h ∙ rw yes

-- how `==` tests a truth
pub said_false : (v : Truth) → sameb the_type v False ≡ is_false v
said_false False = refl
said_false Unknown = refl
said_false True = refl
said_false Neutral = refl

-- a test that was made of a truth
pub false_tested : (v : Truth) {x y : Bool} → x ≡ sameb the_type v False → x ≡ y → y ≡ is_false v
false_tested v e f = sym f ∙ e ∙ said_false v

-- Numbers in the list.

numbers_append : (a b : List ℕ) → number_bytes (a ++ b) ≡ number_bytes a ++ number_bytes b
unfolding number_bytes
numbers_append [] b = refl
numbers_append (n ∷ a) b = ap (λ x. two_bytes n ++ x) (numbers_append a b) ∙ sym (append_assoc (two_bytes n) (number_bytes a) (number_bytes b))

one_number : (n : ℕ) → two_bytes n ≡ number_bytes (n ∷ [])
unfolding number_bytes
one_number n = sym (append-nil (two_bytes n))

-- no number
listed_none : (at : ℕ) (l : List ℕ) → ListedFrom [] at l l at
unfolding number_bytes
listed_none at l = record { ends = omega arith; has = sym (append-nil (take at l)) }

listed_one : {n at q : ℕ} {old new : List ℕ} → Appended (two_bytes n) at old new q → ListedFrom (n ∷ []) at old new q
listed_one {n} {at} {q} {old} {new} h = record { ends = omega (arith, h.ends, two_size n); has = h.has ∙ ap (λ x. take at old ++ x) (one_number n) }

-- some numbers, and then others
listed_both : {a b : List ℕ} {at p q : ℕ} {l₀ l₁ l₂ : List ℕ} → ListedFrom a at l₀ l₁ p → ListedFrom b p l₁ l₂ q → ListedFrom (a ++ b) at l₀ l₂ q
listed_both {a} {b} {at} {p} {q} {l₀} {l₁} {l₂} h k = record {
  ends = omega (arith, h.ends, k.ends, length-append a b);
  has = k.has ∙ ap (λ x. x ++ number_bytes b) h.has ∙ append_assoc (take at l₀) (number_bytes a) (number_bytes b) ∙ ap (λ x. take at l₀ ++ x) (sym (numbers_append a b));
}

listed_same : {a b : List ℕ} {at q : ℕ} {old new : List ℕ} → a ≡ b → ListedFrom a at old new q → ListedFrom b at old new q
listed_same {a} {b} {at} {q} {old} {new} e h = subst (λ x. ListedFrom x at old new q) e h

-- numbers taken back: the place goes back
listed_back : {a : List ℕ} {at q : ℕ} {old new : List ℕ} → at ≤ length old → ListedFrom a at old new q → ListedFrom [] at old new at
unfolding number_bytes
listed_back {a} {at} {q} {old} {new} l h =
    let whole = length-take-le at old l in
    record {
      ends = omega arith;
      has =
          sym (take-take at q new (omega (arith, h.ends))) ∙ ap (take at) h.has ∙ take-append-le at (take at old) (number_bytes a) (omega (arith, whole))
          ∙ take-take at at old (omega arith) ∙ sym (append-nil (take at old));
    }

-- A citation.

module _ (truths : List Truth) {n at : ℕ} {old : List ℕ} {t : Truth} (e : t ≡ get_or truths n False) where
  -- one that is False
  pub false_listed : {x : Bool} {new : List ℕ} {q : ℕ} → x ≡ sameb the_type t False → x ≡ true → Appended (two_bytes n) at old new q → CitedJudged truths n at old new (record { truth = t; at = q })
  false_listed {x} {new} {q} f h w =
      let is : true ≡ is_false (get_or truths n False) = false_tested t f h ∙ ap is_false e in
      record { is = e; listed = listed_same (ap (λ y. cond y (n ∷ []) []) is) (listed_one w) }

  -- another
  pub other_passed : {x : Bool} → x ≡ sameb the_type t False → x ≡ false → CitedJudged truths n at old old (record { truth = t; at = at })
  other_passed {x} f h =
      let is : false ≡ is_false (get_or truths n False) = false_tested t f h ∙ ap is_false e in
      record { is = e; listed = listed_same (ap (λ y. cond y (n ∷ []) []) is) (listed_none at old) }

-- The walk.

module _ (counts : Counts) where
  -- a node's truth, by its operands'
  node-truth : (n : ℕ) (e : Expr) → (node_kind e ≡ Citation → ⊥) → rule_of (node_kind e) (tallied no_tally (truths_with counts n (children e))) ≡ truth_with counts n e
  unfolding rule_of node_kind sign_kind children truth_with
  node-truth n (cite t) h = absurd (h refl)
  node-truth n (expr.Then es) h = sym (and_ruled (truths_with counts n es))
  node-truth n (join expr.And es) h = sym (and_ruled (truths_with counts n es))
  node-truth n (join expr.Or es) h = sym (or_ruled (truths_with counts n es))
  node-truth n (join expr.Xor es) h = sym (or_ruled (truths_with counts n es))

  -- and its violations
  node_violations : (n : ℕ) (e : Expr) → (node_kind e ≡ Citation → ⊥) → cond (fails counts n e) (violations_of counts n (children e)) [] ≡ violations_with counts n e
  unfolding node_kind children violations_with
  node_violations n (cite t) h = absurd (h refl)
  node_violations n (expr.Then es) h = refl
  node_violations n (join o es) h = refl

  truths_more : (n : ℕ) (e : Expr) (es : Exprs) → truths_with counts n (e ◂ es) ≡ truth_with counts n e ∷ truths_with counts (n + count e) es
  unfolding truths_with
  truths_more n e es = refl

  violations_more : (n : ℕ) (e : Expr) (es : Exprs) → violations_of counts n (e ◂ es) ≡ violations_with counts n e ++ violations_of counts (n + count e) es
  unfolding violations_of
  violations_more n e es = refl

  no_truths : (n : ℕ) (vs : List Truth) → vs ++ truths_with counts n none ≡ vs
  unfolding truths_with
  no_truths n vs = append-nil vs

  no_violations : (n : ℕ) (ns : List ℕ) → ns ++ violations_of counts n none ≡ ns
  unfolding violations_of
  no_violations n ns = append-nil ns

  leaf_truth : (n : ℕ) (t : List ℕ) (e : Expr) → e ≡ cite t → counts n t ≡ truth_with counts n e
  unfolding truth_with
  leaf_truth n t e h = sym (ap (truth_with counts n) h)

  leaf_violations : (n : ℕ) (t : List ℕ) (e : Expr) → e ≡ cite t → cond (is_false (counts n t)) (n ∷ []) [] ≡ violations_with counts n e
  unfolding violations_with truth_with
  leaf_violations n t e h = sym (ap (violations_with counts n) h)

-- the loop over the children of the node at a row: the truths vs of those that are done, and the numbers ns that they list
pub record State (counts : Counts) (b : List ℕ) (row left child : ℕ) (tally : Tally) (from : ℕ) (base list : List ℕ) (at : ℕ) : Type 0 where
  pub walk : Walk b row left child
  pub vs : List Truth
  pub judged : truths_with counts (first_at b row) (children (tree_at b row)) ≡ vs ++ truths_with counts (first_at b child) (firsts left (forest_at b child))
  pub met : tally ≡ tallied no_tally vs
  pub ns : List ℕ
  pub numbers : violations_of counts (first_at b row) (children (tree_at b row)) ≡ ns ++ violations_of counts (first_at b child) (firsts left (forest_at b child))
  pub listed : ListedFrom ns from base list at
  pub low : at ≤ 2 * first_at b child
  pub kept : length list ≡ length base

-- the child that is given
pub state_from : {counts : Counts} {b : List ℕ} {row left from child : ℕ} {tally : Tally} {start : ℕ} {base list : List ℕ} {at : ℕ} → State counts b row left from tally start base list at → child ≡ from
    → State counts b row left child tally start base list at
state_from s e = rw e s

first_most : (b : List ℕ) (row : ℕ) → first_at b row ≤ cites b
unfolding first_at
first_most b row = omega arith

module _ (truths : List Truth) (b : List ℕ) (tree : is_tree b ≡ true) where
  abbrev c : Counts
  c = counts_in truths

  -- before the first child
  pub state_begins : (row from m : ℕ) (base : List ℕ) (tally : Tally) → row < nodes b → (node_kind (tree_at b row) ≡ Citation → ⊥) → m ≡ number_at b row → tally ≡ no_tally → from ≤ 2 * first_at b row
      → State c b row m (row + 1) tally from base base from
  state_begins row from m base tally l k e f low =
      let kids = (children-at b tree row l k).0 in
      let first = first_below b tree row l k in
      subst (λ (x : ℕ). State c b row x (row + 1) tally from base base from) (sym e) record {
        walk = walk_begins b tree row l k;
        vs = [];
        judged = ap (truths_with c (first_at b row)) kids ∙ ap (λ (x : ℕ). truths_with c x (firsts (number_at b row) (forest_at b (row + 1)))) (sym first);
        met = f ∙ tallied_none no_tally;
        ns = [];
        numbers = ap (violations_of c (first_at b row)) kids ∙ ap (λ (x : ℕ). violations_of c x (firsts (number_at b row) (forest_at b (row + 1)))) (sym first);
        listed = listed_none from base;
        low = omega (arith, low, first);
        kept = refl;
      }

  module _ {row left child from : ℕ} {tally : Tally} {base list : List ℕ} {at : ℕ} (s : State c b row left child tally from base list at) where
    module _ (h : 0 < left) where
      -- the child that is next
      pub state_next : Next b row left child
      state_next = walk_next b tree row left child s.walk h

      -- after it
      pub state_again : {new : List ℕ} (r : Judged) → RowJudged truths b child at list new r → length new ≡ length list → {after : Tally} → after ≡ added tally r.truth
          → State c b row (left - 1) (child + span (tree_at b child)) after from base new r.at
      state_again {new} r j k {after} t =
          let e = tree_at b child in
          let n = first_at b child in
          let rest = firsts (left - 1) (forest_at b (child + span e)) in
          let one = truth_with c n e in
          let here = violations_with c n e in
          let next = first_next b tree child state_next.inside in
          record {
            walk = state_next.walk;
            vs = s.vs ++ (one ∷ []);
            judged =
                s.judged ∙ ap (λ x. s.vs ++ truths_with c n x) state_next.splits ∙ ap (λ x. s.vs ++ x) (truths_more c n e rest)
                ∙ ap (λ (x : ℕ). s.vs ++ (one ∷ truths_with c x rest)) next ∙ sym (append_assoc s.vs (one ∷ []) (truths_with c (first_at b (child + span e)) rest));
            met = t ∙ ap (λ x. added x r.truth) s.met ∙ ap (added (tallied no_tally s.vs)) j.is ∙ tallied_last no_tally s.vs one;
            ns = s.ns ++ here;
            numbers =
                s.numbers ∙ ap (λ x. s.ns ++ violations_of c n x) state_next.splits ∙ ap (λ x. s.ns ++ x) (violations_more c n e rest)
                ∙ ap (λ (x : ℕ). s.ns ++ (here ++ violations_of c x rest)) next ∙ sym (append_assoc s.ns here (violations_of c (first_at b (child + span e)) rest));
            listed = listed_both s.listed j.listed;
            low = omega (arith, s.low, j.listed.ends, violations_few c n e, next);
            kept = k ∙ s.kept;
          }

    module _ (h : left ≤ 0) (kind : NodeKind) (g : kind ≡ node_kind (tree_at b row)) (k : kind ≡ Citation → ⊥) (v : Truth) (t : v ≡ rule_of kind tally) where
      inner : node_kind (tree_at b row) ≡ Citation → ⊥
      inner y = k (g ∙ y)

      ends_truth : v ≡ truth_with c (first_at b row) (tree_at b row)
      ends_truth =
          let vs : truths_with c (first_at b row) (children (tree_at b row)) ≡ s.vs =
          s.judged ∙ ap (λ x. s.vs ++ truths_with c (first_at b child) x) (firsts_end left (forest_at b child) h) ∙ no_truths c (first_at b child) s.vs in
          t ∙ ap (λ x. rule_of x tally) g ∙ ap (rule_of (node_kind (tree_at b row))) (s.met ∙ ap (tallied no_tally) (sym vs)) ∙ node-truth c (first_at b row) (tree_at b row) inner

      ends_numbers : cond (is_false v) s.ns [] ≡ violations_with c (first_at b row) (tree_at b row)
      ends_numbers =
          let ns : violations_of c (first_at b row) (children (tree_at b row)) ≡ s.ns =
          s.numbers ∙ ap (λ x. s.ns ++ violations_of c (first_at b child) x) (firsts_end left (forest_at b child) h) ∙ no_violations c (first_at b child) s.ns in
          ap (λ x. cond (is_false x) s.ns []) ends_truth ∙ ap (λ x. cond (fails c (first_at b row) (tree_at b row)) x []) (sym ns) ∙ node_violations c (first_at b row) (tree_at b row) inner

      -- after the last: a node that is False keeps what is listed
      pub state_keeps : {x : Bool} → x ≡ sameb the_type v False → x ≡ true → RowJudged truths b row from base list (record { truth = v; at = at })
      state_keeps e y = record { is = ends_truth; listed = listed_same (ap (λ z. cond z s.ns []) (false_tested v e y) ∙ ends_numbers) s.listed }

      -- another takes it back
      pub state_drops : {x : Bool} → x ≡ sameb the_type v False → x ≡ false → from ≤ length base → RowJudged truths b row from base list (record { truth = v; at = from })
      state_drops e y l = record { is = ends_truth; listed = listed_same (ap (λ z. cond z s.ns []) (false_tested v e y) ∙ ends_numbers) (listed_back l s.listed) }

  -- a citation's row
  pub leaf_judged : {row n at : ℕ} {old new : List ℕ} {r : Judged} → row < nodes b → node_kind (tree_at b row) ≡ Citation → n ≡ number_at b row → CitedJudged truths n at old new r → RowJudged truths b row at old new r
  leaf_judged {row} {n} {at} {old} {new} {r} l k e j =
      let f = leaf b tree row l k in
      let here : n ≡ first_at b row = e ∙ f.first in
      record {
        is = j.is ∙ ap (λ (x : ℕ). get_or truths x False) here ∙ leaf_truth c (first_at b row) _ (tree_at b row) f.is;
        listed = listed_same (ap (λ (x : ℕ). cond (is_false (get_or truths x False)) (x ∷ []) []) here ∙ leaf_violations c (first_at b row) _ (tree_at b row) f.is) j.listed;
      }

  -- its number is a citation's, and there is room for it
  pub leaf_asked : (row n at size : ℕ) → row < nodes b → node_kind (tree_at b row) ≡ Citation → n ≡ number_at b row → cites b ≤ length truths → 2 * cites b ≤ size → at ≤ 2 * first_at b row
      → (n < length truths) × (at + 2 ≤ size)
  leaf_asked row n at size l k e many room low = let f = leaf b tree row l k in (omega (arith, f.number, e, many), omega (arith, f.number, f.first, room, low))

  -- a place in the list
  pub placed : (row at size : ℕ) → 2 * cites b ≤ size → at ≤ 2 * first_at b row → at ≤ size
  placed row at size room low = omega (arith, room, low, first_most b row)

-- The whole.

-- no more citations than a tree may have
pub cites_most : (b : List ℕ) → is_tree b ≡ true → cites b ≤ citation_limit
cites_most b tree = let r = root b tree in omega (arith, r.counts, r.fits.few)

module _ (value b : List ℕ) (tree : is_tree b ≡ true) where
  -- by their truths the citations count as they do on the value
  counted_same : (truths : List Truth) → CitesJudged value b (cites b) truths → EachCited pairs.same (counts_in truths) (counts_on value) 0 (citations (tree_at b 0))
  unfolding text_at
  counted_same truths k i l =
      let r = root b tree in
      let text : get_or (citations (tree_at b 0)) i [] ≡ text_at b i = ap (λ x. get_or x i []) r.cited in
      let here : get_or truths (0 + i) False ≡ get_or truths i False = ap (λ (x : ℕ). get_or truths x False) (omega arith) in
      rw (here ∙ k.says i (omega (arith, l, r.counts)) ∙ ap (cited_truth value) (sym text)) (same_refl (cited_truth value (get_or (citations (tree_at b 0)) i [])))

  -- judged by the citations' truths is judged on the value
  pub tree_judged : {truths : List Truth} {old new : List ℕ} {r : Judged} → CitesJudged value b (cites b) truths → RowJudged truths b 0 0 old new r → TreeJudged value b old new r
  tree_judged {truths} {old} {new} {r} k j =
      let e = tree_at b 0 in
      let first = (root b tree).first in
      let c = counts_in truths in
      let all = counted_same truths k in
      record {
        is = j.is ∙ ap (λ (x : ℕ). truth_with c x e) first ∙ truth_same c (counts_on value) 0 e all;
        listed = listed_same (ap (λ (x : ℕ). violations_with c x e) first ∙ violations_same c (counts_on value) 0 e all) j.listed;
      }

  module _ {base list : List ℕ} {r : Judged} (j : TreeJudged value b base list r) where
    -- what is listed fits into the list
    pub list_fits : length list ≡ length base → 2 * cites b ≤ length base → r.at ≤ length list
    list_fits k room = omega (arith, j.listed.ends, violations_few (counts_on value) 0 (tree_at b 0), (root b tree).counts, k, room)

    module _ (lent : List ℕ) where
      -- 14
      pub verdicts_short : length lent < r.at → record { result_value : Err NoRoom ≡ answer_of (verdicts_outcome value (tree_at b 0)) (length lent); list_after : lent ≡ written_of (verdicts_outcome value (tree_at b 0)) lent }
      verdicts_short l =
          let w = with_numbers (truth value (tree_at b 0)) (violations value (tree_at b 0)) in
          let short : length lent < length w.bytes = omega (arith, l, j.listed.ends, numbers_length (violations value (tree_at b 0))) in
          record { result_value = sym (answer_short w (length lent) short); list_after = sym (written_short w lent short) }

      -- the truth, the count of the violations, and their numbers
      pub verdicts_written : {new : List ℕ} {q : ℕ} → r.at ≤ length lent → Appended (take r.at list) 0 lent new q
          → record { result_value : Ok (r.truth, r.at / 2) ≡ answer_of (verdicts_outcome value (tree_at b 0)) (length lent); list_after : new ≡ written_of (verdicts_outcome value (tree_at b 0)) lent }
      verdicts_written {new} {q} l p =
          let ns = violations value (tree_at b 0) in
          let w = with_numbers (truth value (tree_at b 0)) ns in
          let fits : length w.bytes ≤ length lent = omega (arith, l, j.listed.ends, numbers_length ns) in
          let half : r.at / 2 ≡ length ns = omega (arith, j.listed.ends) in
          record {
            result_value = ap₂ (λ (v : Truth) (n : ℕ). Ok (v, n)) j.is half ∙ sym (answer_fits w (length lent) fits);
            list_after = whole (same j.listed.has p) ∙ sym (written_fits w lent fits);
          }

module _ (b value : List ℕ) where
  -- 15
  pub verdicts-no-tree : (lent : List ℕ) → is_tree b ≡ false → record { result_value : Err NotATree ≡ answer_of (verdicts_answer b value) (length lent); list_after : lent ≡ written_of (verdicts_answer b value) lent }
  unfolding verdicts_answer answer_of written_of then
  verdicts-no-tree lent h = record { result_value = rw (no-tree b h); list_after = rw (no-tree b h) }

  module _ (tree : is_tree b ≡ true) where
    -- 10 and 11
    pub verdicts_turned : (lent : List ℕ) (k : Refusal) → ((r : Outcome (Truth × ℕ)) → admitted value_limit value r ≡ Err k)
        → record { result_value : Err k ≡ answer_of (verdicts_answer b value) (length lent); list_after : lent ≡ written_of (verdicts_answer b value) lent }
    unfolding verdicts_answer answer_of written_of then
    verdicts_turned lent k a =
        let is = a (verdicts_outcome value (tree_at b 0)) in
        rw ((root b tree).is, is) record { result_value = refl; list_after = refl }

    -- the verdicts
    pub verdicts_done : ((r : Outcome (Truth × ℕ)) → admitted value_limit value r ≡ r) → verdicts_outcome value (tree_at b 0) ≡ verdicts_answer b value
    unfolding verdicts_answer then
    verdicts_done a = rw (root b tree).is (sym (a (verdicts_outcome value (tree_at b 0))))

map-unless : {A B : Type 0} (f : A → B) (t : Bool) (why : Refusal) (r : Result A Refusal) → map_ok f (unless t why r) ≡ unless t why (map_ok f r)
unfolding map_ok
map-unless f true why r = refl
map-unless f false why r = refl

-- what is said of an answer behind 16 and the tests of a value can be said in front of them
pub map_tested : {A B : Type 0} (f : A → B) (fit : Bool) (value : List ℕ) (r : Result A Refusal)
    → map_ok f (unless fit WrongAnswers (admitted value_limit value r)) ≡ unless fit WrongAnswers (admitted value_limit value (map_ok f r))
unfolding admitted
map_tested f fit value r =
    map-unless f fit WrongAnswers _ ∙ ap (unless fit WrongAnswers) (map-unless f (leb (length value) value_limit) _ _ ∙ ap (unless (leb (length value) value_limit) _) (map-unless f (is_utf8 value) _ r))

-- 16
pub presence_unfit : (answers value : List ℕ) (e : Expr) → answers_fit e answers ≡ false → Err WrongAnswers ≡ admitted_presence answers value e
presence_unfit answers value e k = rw k

module _ (b answers value : List ℕ) where
  -- 15
  pub both-no-tree : is_tree b ≡ false → Err NotATree ≡ eval_and_truth_answer b answers value
  unfolding eval_and_truth_answer then
  both-no-tree h = rw (no-tree b h)

  module _ (tree : is_tree b ≡ true) where
    module _ (o : Result Truth Refusal) (h : o ≡ admitted_presence answers value (tree_at b 0)) where
      both_is : (x : Result Truth Refusal) → o ≡ x → map_ok (λ p. (p, truth value (tree_at b 0))) x ≡ eval_and_truth_answer b answers value
      unfolding eval_and_truth_answer then
      both_is x e =
          let f : Truth → Truth × Truth = λ p. (p, truth value (tree_at b 0)) in
          rw (root b tree).is (ap (map_ok f) (sym e ∙ h) ∙ map_tested f (answers_fit (tree_at b 0) answers) value (presence_by answers (tree_at b 0)))

      -- its refusals
      pub both_refused : (why : Refusal) → o ≡ Err why → Err why ≡ eval_and_truth_answer b answers value
      unfolding map_ok
      both_refused why e = both_is (Err why) e

      -- both
      pub both_done : (p f : Truth) → o ≡ Ok p → f ≡ truth value (tree_at b 0) → Ok (p, f) ≡ eval_and_truth_answer b answers value
      unfolding map_ok
      both_done p f e g = ap (λ x. Ok (p, x)) g ∙ both_is (Ok p) e
