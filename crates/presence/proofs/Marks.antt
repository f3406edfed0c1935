-- What marks say of operands. Assumes nothing.
use mathlib.Core.Path.{◌≡◌, refl, sym}
use mathlib.Core.List.{List, [], ◌∷◌, ◌++◌}
use mathlib.Core.Bool.{Bool, true, false, not, ◌&&◌, ◌||◌, false≢true, and-true, or-false, and_assoc, or_assoc}
use Prim.Native.Nat.{ℕ}
use Rattle.laws.specs.Tests.{and_both}
use Rattle.citation.specs.Kinds.{kind_of}
use Rattle.citation.specs.declared.ConditionKind.{ConditionKind}
use Rattle.citation.specs.declared.ConditionKind.TheVariants.{Voraussetzung, Hinweis, Format, Wiederholbarkeit, Zeitpunkt, Paket, Other}
use Rattle.semantics.specs.Rules.{any, every}
use Rattle.semantics.specs.Presence.{is_hinweis, is_gate, only_hinweise, gates}
use denote.Enum.Bare.{sameb}
use Rattle.std.specs.Ordering.{ord_max}
use Rattle.presence.specs.contracts.Mark.{the_type}
use Rattle.presence.specs.contracts.MarkOrd.TheImpl.{cmp-value}
use Rattle.presence.specs.declared.Mark.{Mark}
use Rattle.presence.specs.declared.Mark.TheVariants.{Dropped, Kept, Gating}
use Rattle.presence.specs.Marks.{mark_by, mark_of_kind, mark_of, larger, is_dropped, is_kept, is_gating}

gates_append : (a b : List (List ℕ)) → gates (a ++ b) ≡ gates a || gates b
unfolding any
gates_append [] b = refl
gates_append (t ∷ a) b = rw (gates_append a b) (sym (or_assoc (is_gate (kind_of t)) (gates a) (gates b)))

only_append : (a b : List (List ℕ)) → only_hinweise (a ++ b) ≡ only_hinweise a && only_hinweise b
unfolding every
only_append [] b = refl
only_append (t ∷ a) b = rw (only_append a b) (sym (and_assoc (is_hinweis (kind_of t)) (only_hinweise a) (only_hinweise b)))

larger-both : (g o h p : Bool) → larger (mark_by g o) (mark_by h p) ≡ mark_by (g || h) (o && p)
larger-both true o true p = refl
larger-both true o false true = refl
larger-both true o false false = refl
larger-both false true true p = refl
larger-both false true false true = refl
larger-both false true false false = refl
larger-both false false true p = refl
larger-both false false false true = refl
larger-both false false false false = refl

-- the mark of what cites the one and the other
pub mark_append : (a b : List (List ℕ)) → larger (mark_of a) (mark_of b) ≡ mark_of (a ++ b)
unfolding mark_of
mark_append a b = rw (gates_append a b, only_append a b) (larger-both (gates a) (only_hinweise a) (gates b) (only_hinweise b))

-- the mark of nothing
pub mark_none : mark_of [] ≡ Dropped
unfolding mark_of any every
mark_none = refl

-- the mark of one citation
pub mark_one : (t : List ℕ) → mark_of (t ∷ []) ≡ mark_of_kind (kind_of t)
unfolding mark_of any every
mark_one t = rw (or-false (is_gate (kind_of t)), and-true (is_hinweis (kind_of t)))

hint_free : (k : ConditionKind) → is_hinweis k ≡ true → is_gate k ≡ false
hint_free Voraussetzung h = sym h
hint_free Hinweis h = refl
hint_free Format h = refl
hint_free Wiederholbarkeit h = refl
hint_free Zeitpunkt h = refl
hint_free Paket h = sym h
hint_free Other h = refl

-- Hinweise alone do not gate
pub only_free : (ts : List (List ℕ)) → only_hinweise ts ≡ true → gates ts ≡ false
unfolding every any
only_free [] h = refl
only_free (t ∷ ts) h =
    let r = and_both (is_hinweis (kind_of t)) (only_hinweise ts) h in
    rw (hint_free (kind_of t) r.0) (only_free ts r.1)

drop_by : (g o : Bool) → (o ≡ true → g ≡ false) → is_dropped (mark_by g o) ≡ o
drop_by true true h = absurd (false≢true (sym (h refl)))
drop_by true false h = refl
drop_by false true h = refl
drop_by false false h = refl

-- the mark Dropped: a choice drops the operand
pub mark_drop : (ts : List (List ℕ)) → is_dropped (mark_of ts) ≡ only_hinweise ts
unfolding mark_of
mark_drop ts = drop_by (gates ts) (only_hinweise ts) (only_free ts)

gate_by : (g o : Bool) → (o ≡ true → g ≡ false) → is_gating (mark_by g o) ≡ not o && g
gate_by true true h = absurd (false≢true (sym (h refl)))
gate_by true false h = refl
gate_by false true h = refl
gate_by false false h = refl

-- the mark Gating: a kept operand that gates
pub mark_gate : (ts : List (List ℕ)) → is_gating (mark_of ts) ≡ not (only_hinweise ts) && gates ts
unfolding mark_of
mark_gate ts = gate_by (gates ts) (only_hinweise ts) (only_free ts)

free_by : (g o : Bool) → (o ≡ true → g ≡ false) → is_kept (mark_by g o) ≡ not o && not g
free_by true true h = absurd (false≢true (sym (h refl)))
free_by true false h = refl
free_by false true h = refl
free_by false false h = refl

-- the mark Kept: a kept operand that does not
pub mark_free : (ts : List (List ℕ)) → is_kept (mark_of ts) ≡ not (only_hinweise ts) && not (gates ts)
unfolding mark_of
mark_free ts = free_by (gates ts) (only_hinweise ts) (only_free ts)

-- how `==` tests a mark, and which of two `max` takes
pub said_gating : (m : Mark) → sameb the_type m Gating ≡ is_gating m
said_gating Dropped = refl
said_gating Kept = refl
said_gating Gating = refl

pub said_kept : (m : Mark) → sameb the_type m Kept ≡ is_kept m
said_kept Dropped = refl
said_kept Kept = refl
said_kept Gating = refl

pub said_larger : (a b : Mark) → ord_max (cmp-value).it a b ≡ larger a b
said_larger Dropped Dropped = refl
said_larger Dropped Kept = refl
said_larger Dropped Gating = refl
said_larger Kept Dropped = refl
said_larger Kept Kept = refl
said_larger Kept Gating = refl
said_larger Gating Dropped = refl
said_larger Gating Kept = refl
said_larger Gating Gating = refl
