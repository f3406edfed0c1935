use Prim.Native.Nat.{◌+◌, ◌-◌}
use mathlib.Core.Path.{◌≡◌, sym, ap, ◌∙◌}
use lib.ListN.{drop, get_or}
use native.Mathlib.Omega.{arith}
use Rattle.utf8.specs.Utf8.{char_of}
use Rattle.utf8.proofs.Walk.{code_past, code_low, code_high, code_next, code_done, cap_now, cap_next}
use Rattle.utf8.proofs.rest.Goals as goal
use Rattle.utf8.proofs.rest.Goals.{then-b-from-via-then-b-from, then-b-from-via-else-b-from+then-to-b}

pub returns-then-s-at : goal.returns-then-s-at
returns-then-s-at c = let a = c.args in
    let l = c.loop-k in
    ap (char_of a.more) (sym (code_past a.s.now (a.at + l.k) l.from l.to l.value (a.more - l.k) (omega arith) (omega arith)) ∙ l.invariant.0)

pub returns-then-b-from : goal.returns-then-b-from
returns-then-b-from c = let a = c.args in
    let l = c.loop-k in
    elim c.then-b-from.branch [
      | then-b-from-via-then-b-from w ↦
          ap (char_of a.more) (sym (code_low a.s.now (a.at + l.k) l.from l.to l.value (a.more - l.k) (omega arith) (omega arith) (omega arith)) ∙ l.invariant.0)
      | then-b-from-via-else-b-from+then-to-b w ↦
          ap (char_of a.more) (sym (code_high a.s.now (a.at + l.k) l.from l.to l.value (a.more - l.k) (omega arith) (omega arith) (omega arith)) ∙ l.invariant.0)
    ]

pub overflow_mul-value : goal.overflow_mul-value
overflow_mul-value c = let l = c.loop-k in
    omega (arith, cap_now l.value (c.args.more - l.k) (omega arith) l.invariant.3)

pub overflow_add-value : goal.overflow_add-value
overflow_add-value c = let l = c.loop-k in
    omega (arith, cap_now l.value (c.args.more - l.k) (omega arith) l.invariant.3)

pub loop-k-preserved : goal.loop-k-preserved
loop-k-preserved c = let a = c.args in
    let l = c.loop-k in
    let b = get_or a.s.now (a.at + l.k) 0 in
    let due : a.more - (l.k + 1) ≡ a.more - l.k - 1 = omega arith in
    let place : a.at + (l.k + 1) ≡ a.at + l.k + 1 = omega arith in (
      rw (due, place, c.from.ensures) (code_next a.s.now (a.at + l.k) l.from l.to l.value (a.more - l.k) (omega arith) (omega arith) (omega arith) (omega arith)) ∙ l.invariant.0,
      omega arith,
      omega arith,
      rw (due, c.from.ensures) (cap_next l.value (a.more - l.k) (b - 0x80) (omega arith) (omega arith) l.invariant.3),
    )

pub returns : goal.returns
returns c = let a = c.args in
    let l = c.loop-k in
    ap (char_of a.more) (sym (code_done (a.more - l.k) l.from l.to l.value (drop (a.at + l.k) a.s.now) (omega arith)) ∙ l.invariant.0)
