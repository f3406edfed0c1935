use native.Mathlib.Omega.{arith}
use mathlib.Core.Path.{refl, sym, ap, ◌∙◌}
use mathlib.Core.List.{List}
use Prim.Native.Nat.{ℕ}
use Rattle.text.specs.Bytes.{same}
use Rattle.status.specs.Status.{kind_of_word}
use Rattle.status.proofs.Laws.{kind_here, kind_later, kind_none}
use Rattle.status.proofs.StatusKind.from_word.Goals as goal

pub loop-kind-init : goal.loop-kind-init
unfolding kind_of_word
loop-kind-init c = refl

pub returns-then-same_bytes : goal.returns-then-same_bytes
returns-then-same_bytes c = let w = c.args.word.now in
    let e = ap (λ (t : List ℕ). same t w) (c.as_bytes.ensures.value ∙ c.as_str.ensures) in
    sym (kind_here w c.loop-kind.kind-index (omega arith) (sym e ∙ sym c.same_bytes.ensures ∙ c.if-same_bytes.true)) ∙ c.loop-kind.invariant

pub loop-kind-preserved : goal.loop-kind-preserved
loop-kind-preserved c = let w = c.args.word.now in
    let e = ap (λ (t : List ℕ). same t w) (c.as_bytes.ensures.value ∙ c.as_str.ensures) in
    sym (kind_later w c.loop-kind.kind-index (omega arith) (sym e ∙ sym c.same_bytes.ensures ∙ c.if-same_bytes.false)) ∙ c.loop-kind.invariant

pub returns : goal.returns
returns c = sym (kind_none c.args.word.now c.loop-kind.kind-index (omega arith)) ∙ c.loop-kind.invariant
