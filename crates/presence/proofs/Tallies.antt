-- A tally decides what the rules decide. Assumes nothing.
use Rattle.std.specs.Prelude.{Result, Ok, Err}
use mathlib.Core.Path.{◌≡◌, refl, sym, ap, ◌∙◌}
use mathlib.Core.List.{List, [], ◌∷◌, ◌++◌}
use mathlib.Core.Bool.{Bool, true, false, ◌&&◌, ◌||◌, false≢true, or-true, or-false}
use Prim.Native.Nat.{ℕ, ◌+◌}
use Rattle.refusal.specs.declared.Refusal.{Refusal}
use Rattle.refusal.specs.Result.{map_ok}
use Rattle.refusal.specs.declared.Refusal.TheVariants.{ChoiceOverNeutral}
use Rattle.citation.specs.declared.Truth.{Truth}
use Rattle.citation.specs.declared.Truth.TheVariants.{False, Unknown, True, Neutral}
use Rattle.grammar.specs.Expr as expr
use Rattle.grammar.specs.Expr.{Expr, Exprs, cite, join, none, ◌◂◌, count}
use Rattle.grammar.specs.Rows.{children}
use Rattle.grammar.specs.Kinds.{node_kind, sign_kind}
use Rattle.grammar.specs.declared.NodeKind.{NodeKind}
use Rattle.grammar.specs.declared.NodeKind.TheVariants.{Citation, Then, And, Or, Xor}
use Rattle.semantics.specs.Rules.{is_false, is_unknown, is_true, any, and_rule, or_rule, two_true, xor_rule}
use Rattle.semantics.specs.Presence.{presence_with, values_with, dropped, mixes, before, presence, values}
use Rattle.semantics.proofs.Sentences.{or_mixes, xor_mixes, values-dropped, values_kept}
use Rattle.presence.specs.Marks.{choosing}
use Rattle.presence.specs.declared.Tally.{Tally}
use Rattle.presence.specs.Tallies.{no_tally, added, anded, ored, xored, ruled, tallied, finished}

-- what a tally holds after more values
record Holds (t r : Tally) (vs : List Truth) : Type 0 where
  pub no : r.no ≡ t.no || any is_false vs
  pub unknown : r.unknown ≡ t.unknown || any is_unknown vs
  pub yes : r.yes ≡ t.yes || any is_true vs
  pub second : r.second ≡ (t.second || (t.yes && any is_true vs)) || two_true vs

second_none : (s y : Bool) → s ≡ (s || (y && false)) || false
second_none true y = refl
second_none false true = refl
second_none false false = refl

second_true : (s y a w : Bool) → ((y || s) || (true && a)) || w ≡ (s || (y && true)) || (a || w)
second_true true true a w = refl
second_true true false a w = refl
second_true false true a w = refl
second_true false false true w = refl
second_true false false false w = refl

-- two True among others: one more is True
two_any : (vs : List Truth) → any is_true vs || two_true vs ≡ any is_true vs
unfolding any two_true
two_any [] = refl
two_any (False ∷ vs) = two_any vs
two_any (Unknown ∷ vs) = two_any vs
two_any (True ∷ vs) = refl
two_any (Neutral ∷ vs) = two_any vs

holds_step : (t r : Tally) (v : Truth) (vs : List Truth) → Holds (added t v) r vs → Holds t r (v ∷ vs)
unfolding any two_true
holds_step t r False vs h = record { no = h.no ∙ sym (or-true t.no); unknown = h.unknown; yes = h.yes; second = h.second }
holds_step t r Unknown vs h = record { no = h.no; unknown = h.unknown ∙ sym (or-true t.unknown); yes = h.yes; second = h.second }
holds_step t r True vs h = record {
  no = h.no;
  unknown = h.unknown;
  yes = h.yes ∙ sym (or-true t.yes);
  second = h.second ∙ second_true t.second t.yes (any is_true vs) (two_true vs) ∙ ap (λ x. (t.second || (t.yes && true)) || x) (two_any vs);
}
holds_step t r Neutral vs h = record { no = h.no; unknown = h.unknown; yes = h.yes; second = h.second }

-- the value that comes last
pub tallied_last : (t : Tally) (vs : List Truth) (v : Truth) → added (tallied t vs) v ≡ tallied t (vs ++ (v ∷ []))
unfolding tallied
tallied_last t [] v = refl
tallied_last t (u ∷ vs) v = tallied_last (added t u) vs v

-- no value
pub tallied_none : (t : Tally) → t ≡ tallied t []
unfolding tallied
tallied_none t = refl

holds : (t : Tally) (vs : List Truth) → Holds t (tallied t vs) vs
unfolding tallied any two_true
holds t [] = record {
  no = sym (or-false t.no);
  unknown = sym (or-false t.unknown);
  yes = sym (or-false t.yes);
  second = second_none t.second t.yes;
}
holds t (v ∷ vs) = holds_step t (tallied (added t v) vs) v vs (holds (added t v) vs)

-- the truth of a Then or an And, by a tally
pub and_ruled : (vs : List Truth) → and_rule vs ≡ anded (tallied no_tally vs)
unfolding and_rule anded
and_ruled vs = let h = holds no_tally vs in rw (h.no, h.unknown, h.yes)

-- the truth of an Or
pub or_ruled : (vs : List Truth) → or_rule vs ≡ ored (tallied no_tally vs)
unfolding or_rule ored
or_ruled vs = let h = holds no_tally vs in rw (h.no, h.unknown, h.yes)

xor_ruled : (vs : List Truth) → xor_rule vs ≡ xored (tallied no_tally vs)
unfolding xor_rule xored
xor_ruled vs = let h = holds no_tally vs in rw (h.no, h.unknown, h.yes, h.second)

finished_by : (rule : List Truth → Truth) (k : NodeKind) → ((vs : List Truth) → rule vs ≡ ruled k (tallied no_tally vs))
    → (r : Result (List Truth) Refusal) → map_ok rule r ≡ finished k no_tally r
unfolding finished map_ok
finished_by rule k h (Ok vs) = ap Ok (h vs)
finished_by rule k h (Err n) = refl

then-ruled : (vs : List Truth) → and_rule vs ≡ ruled Then (tallied no_tally vs)
unfolding ruled
then-ruled vs = and_ruled vs

join_ruled : (vs : List Truth) → and_rule vs ≡ ruled And (tallied no_tally vs)
unfolding ruled
join_ruled vs = and_ruled vs

choice_or : (vs : List Truth) → or_rule vs ≡ ruled Or (tallied no_tally vs)
unfolding ruled
choice_or vs = or_ruled vs

choice_xor : (vs : List Truth) → xor_rule vs ≡ ruled Xor (tallied no_tally vs)
unfolding ruled
choice_xor vs = xor_ruled vs

module _ (oracle : ℕ → Result Truth Refusal) where
  -- a node that does not mix is finished from its operands' values
  pub node-begins : (n : ℕ) (e : Expr) → (node_kind e ≡ Citation → ⊥) → (choosing (node_kind e) && mixes (children e)) ≡ false
      → presence oracle n e ≡ finished (node_kind e) no_tally (values oracle (choosing (node_kind e)) n (children e))
  unfolding presence_with node_kind sign_kind children
  node-begins n (cite t) k h = absurd (k refl)
  node-begins n (expr.Then es) k h = finished_by and_rule Then then-ruled (values oracle false n es)
  node-begins n (join expr.And es) k h = finished_by and_rule And join_ruled (values oracle false n es)
  node-begins n (join expr.Or es) k h = rw h (finished_by or_rule Or choice_or (values oracle true n es))
  node-begins n (join expr.Xor es) k h = rw h (finished_by xor_rule Xor choice_xor (values oracle true n es))

  -- a choice that mixes is turned back
  pub node-mixes : (n : ℕ) (e : Expr) → (choosing (node_kind e) && mixes (children e)) ≡ true → presence oracle n e ≡ Err ChoiceOverNeutral
  unfolding node_kind sign_kind children
  node-mixes n (cite t) h = absurd (false≢true h)
  node-mixes n (expr.Then es) h = absurd (false≢true h)
  node-mixes n (join expr.And es) h = absurd (false≢true h)
  node-mixes n (join expr.Or es) h = or_mixes oracle n es h
  node-mixes n (join expr.Xor es) h = xor_mixes oracle n es h

  -- no operand is left
  pub node-ends : (k : NodeKind) (t : Tally) (c : Bool) (n : ℕ) → finished k t (values oracle c n none) ≡ Ok (ruled k t)
  unfolding finished values_with map_ok tallied
  node-ends k t c n = refl

  -- an operand is dropped
  pub node_drops : (k : NodeKind) (t : Tally) (c : Bool) (n : ℕ) (e : Expr) (es : Exprs) → (c && dropped e) ≡ true
      → finished k t (values oracle c n (e ◂ es)) ≡ finished k t (values oracle c (n + count e) es)
  node_drops k t true n e es h = ap (finished k t) (values-dropped oracle n e es h)
  node_drops k t false n e es h = absurd (false≢true h)

  -- an operand is turned back
  pub node_refused : (k : NodeKind) (t : Tally) (c : Bool) (n : ℕ) (e : Expr) (es : Exprs) (why : Refusal) → (c && dropped e) ≡ false → presence oracle n e ≡ Err why
      → finished k t (values oracle c n (e ◂ es)) ≡ Err why
  unfolding finished before map_ok
  node_refused k t c n e es why h p = rw (values_kept oracle c n e es h, p)

  before-added : (k : NodeKind) (t : Tally) (v : Truth) (r : Result (List Truth) Refusal) → finished k t (before (Ok v) r) ≡ finished k (added t v) r
  unfolding finished before map_ok tallied
  before-added k t v (Ok vs) = refl
  before-added k t v (Err n) = refl

  -- an operand has a value
  pub node_adds : (k : NodeKind) (t : Tally) (c : Bool) (n : ℕ) (e : Expr) (es : Exprs) (v : Truth) → (c && dropped e) ≡ false → presence oracle n e ≡ Ok v
      → finished k t (values oracle c n (e ◂ es)) ≡ finished k (added t v) (values oracle c (n + count e) es)
  node_adds k t c n e es v h p = rw (values_kept oracle c n e es h, p) (before-added k t v (values oracle c (n + count e) es))
