use Prim.Native.Nat.{ℕ, ◌+◌, ◌*◌, ◌/◌, ◌≤◌}
use mathlib.Core.Path.{◌≡◌, sym, ap, ◌∙◌}
use mathlib.Core.List.{List, [], ◌++◌, append-nil}
use native.Mathlib.Omega.{arith}
use lib.ListN.{length, take, drop}
use lib.Seq.{drop-set-lt, drop-drop}
use Rattle.text.specs.Bytes.{over}
use Rattle.protocol.specs.Hex.{pairs}
use Rattle.protocol.proofs.Laws.{pairs_put, pairs_step, pairs_end, over_is}
use Rattle.protocol.proofs.put_pairs.Goals as goal

-- the bytes from a place on stayed, and so those from the next
further : (new old : List ℕ) (n : ℕ) → drop n new ≡ drop n old → drop (n + 1) new ≡ drop (n + 1) old
further new old n e = sym (drop-drop 1 n new) ∙ ap (drop 1) e ∙ drop-drop 1 n old

-- no pair is left
done : (f old new : List ℕ) (n : ℕ) → n ≤ length new → 2 * n ≤ length f → pairs (drop (2 * n) f) ≡ [] → (take n new ++ pairs (drop (2 * n) f) ≡ pairs f) × (drop n new ≡ drop n old) → record { value : (n ≡ length (pairs f)) × (2 * n ≤ length f); out_after : new ≡ over (pairs f) old }
done f old new n h b e p =
    let q = over_is new old (pairs f) n h (sym (append-nil (take n new)) ∙ ap (λ (l : List ℕ). take n new ++ l) (sym e) ∙ p.0) p.1 in
    record { value = (q.0, b); out_after = q.1 }

pub loop-n-preserved : goal.loop-n-preserved
loop-n-preserved c = let f = c.args.field.now in
    let l = c.loop-n in
    let next : 2 * l.n + 2 ≡ 2 * (l.n + 1) = omega arith in
    let put = pairs_put f (2 * l.n) (omega arith) l.out l.n c.in-Some.high c.in-Some-digit_value.low (omega arith) (sym c.digit_value.ensures.value ∙ c.in-Some.is) (sym c.digit_value-in-loop-n.ensures.value ∙ c.in-Some-digit_value.is) in
    (rw next at put ∙ l.invariant.0, drop-set-lt (l.n + 1) l.out l.n _ (omega arith) ∙ further l.out c.args.out.now l.n l.invariant.1)

pub returns-in_default : goal.returns-in_default
returns-in_default c = let f = c.args.field.now in
    let l = c.loop-n in
    done f c.args.out.now l.out l.n (omega arith) (omega arith) (pairs_step f (2 * l.n) (omega arith) ∙ rw (sym c.digit_value.ensures.value ∙ c.in_default.is)) l.invariant

pub returns-in_default-digit_value : goal.returns-in_default-digit_value
returns-in_default-digit_value c = let f = c.args.field.now in
    let l = c.loop-n in
    done f c.args.out.now l.out l.n (omega arith) (omega arith) (pairs_step f (2 * l.n) (omega arith) ∙ rw (sym c.digit_value.ensures.value ∙ c.in-Some.is, sym c.digit_value-in-loop-n.ensures.value ∙ c.in_default-digit_value.is)) l.invariant

pub returns : goal.returns
returns c = let f = c.args.field.now in
    let l = c.loop-n in
    let e : l.n ≡ length f / 2 = omega arith in
    let d = done f c.args.out.now l.out l.n (omega arith) (omega arith) (pairs_end f (2 * l.n) (omega arith)) l.invariant in
    rw e at d
