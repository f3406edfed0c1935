-- What a choice asks of its operands' citations, as one mark for each row. Assumes nothing.
use Rattle.std.specs.Prelude.{◌≡◌, List, Bool, true, false, cond, ◌||◌, ℕ, zero, suc, ◌≤◌, ◌<◌, length, get_or}
use Rattle.citation.specs.declared.ConditionKind.{ConditionKind}
use Rattle.grammar.specs.Expr.{citations}
use Rattle.grammar.specs.Bytes.{nodes, tree_at}
use Rattle.grammar.specs.Kinds.{node_kind}
use Rattle.grammar.specs.declared.NodeKind.{NodeKind}
use Rattle.grammar.specs.declared.NodeKind.TheVariants.{Citation, Then, And, Or, Xor}
use Rattle.semantics.specs.Presence.{is_hinweis, is_gate, only_hinweise, gates}
use Rattle.presence.specs.declared.Mark.{Mark}
use Rattle.presence.specs.declared.Mark.TheVariants.{Dropped, Kept, Gating}

-- the mark of an operand: Gating if it gates, else Dropped if a choice drops it, else Kept
abbrev pub mark_by : (gate drop : Bool) → Mark
mark_by gate drop = cond gate Gating (cond drop Dropped Kept)

-- the mark of a citation of this kind
abbrev pub mark_of_kind : ConditionKind → Mark
mark_of_kind k = mark_by (is_gate k) (is_hinweis k)

-- the mark of an operand that cites these texts
unfoldable pub mark_of : List (List ℕ) → Mark
mark_of ts = mark_by (gates ts) (only_hinweise ts)

-- the larger of two marks, which is that of both together
abbrev pub larger : Mark → Mark → Mark
larger Dropped b = b
larger Kept Dropped = Kept
larger Kept Kept = Kept
larger Kept Gating = Gating
larger Gating b = Gating

-- the mark is Dropped
abbrev pub is_dropped : Mark → Bool
is_dropped Dropped = true
is_dropped Kept = false
is_dropped Gating = false

-- the mark is Kept
abbrev pub is_kept : Mark → Bool
is_kept Dropped = false
is_kept Kept = true
is_kept Gating = false

-- the mark is Gating
abbrev pub is_gating : Mark → Bool
is_gating Dropped = false
is_gating Kept = false
is_gating Gating = true

-- a node of this kind is a choice: an Or or a Xor
abbrev pub choosing : NodeKind → Bool
choosing Citation = false
choosing Then = false
choosing And = false
choosing Or = true
choosing Xor = true

-- one of the first rows, so many, is a choice's
unfoldable pub choice_among : List ℕ → ℕ → Bool
choice_among b zero = false
choice_among b (suc n) = choosing (node_kind (tree_at b n)) || choice_among b n

-- the rows from a row on are marked
pub record Marked (b : List ℕ) (from : ℕ) (marks : List Mark) : Type 0 where
  pub room : nodes b ≤ length marks
  pub says : (i : ℕ) → from ≤ i → i < nodes b → get_or marks i Dropped ≡ mark_of (citations (tree_at b i))

-- there is room for the marks, and the rows are marked if one of them is a choice's
pub record Ready (b : List ℕ) (marks : List Mark) : Type 0 where
  pub room : nodes b ≤ length marks
  pub marked : choice_among b (nodes b) ≡ true → Marked b 0 marks
