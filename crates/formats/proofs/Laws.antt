-- Laws of the rules. Assumes nothing.
use Prim.Native.Nat.{ℕ, ◌+◌}
use mathlib.Core.Path.{◌≡◌, refl}
use mathlib.Core.Bool.{Bool, true, false, and-false}
use mathlib.Core.List.{List}
use Rattle.std.specs.Prelude.{Option, Some, None, is_some}
use lib.ListN.{drop}
use Rattle.utf8.specs.Utf8.{is_utf8, step_of, step_at}
use Rattle.utf8.specs.declared.Step.TheVariants.{Char, Bad, End}
use Rattle.utf8.proofs.Laws.{char_at, decode-at, decode_nil, step_bad, step_end, utf8_nil}
use Rattle.formats.specs.Answers.{is_verdict}
use Rattle.formats.specs.Table.{rules, rule_of, judged_by, verdict, is_registered}
use Rattle.formats.specs.Rules.{Rule, unoc_upper, is_unoc_upper, passes, verdict_of, judged}

-- 918 over the characters of a value, one at a time
module _ (s : List ℕ) (at c w : ℕ) (e : step_at s at ≡ Char c w) where
  pub upper_next : is_unoc_upper c ≡ true → passes unoc_upper (drop (at + w) s) ≡ passes unoc_upper (drop at s)
  upper_next u = rw (decode-at s at c w e, u, (char_at s at c w e).0)

  pub upper_fail : is_unoc_upper c ≡ false → false ≡ passes unoc_upper (drop at s)
  upper_fail u = rw (decode-at s at c w e, u, and-false (is_utf8 (drop at s)))

pub upper_bad : (s : List ℕ) → step_of s ≡ Bad → false ≡ passes unoc_upper s
upper_bad s e = rw (step_bad s e)

pub upper_nil : (s : List ℕ) → step_of s ≡ End → true ≡ passes unoc_upper s
upper_nil s e = rw (step_end s e, utf8_nil, decode_nil)

-- a condition has an evaluator exactly if it has a verdict on a value, whichever value
pub verdict_registered : (t v : List ℕ) → is_verdict (verdict t v) ≡ is_registered t
unfolding verdict is_registered judged
verdict_registered t v = go (rule_of rules t)
  where
    passed : (b : Bool) → is_verdict (verdict_of b) ≡ true
    passed true = refl
    passed false = refl

    go : (r : Option Rule) → is_verdict (judged_by r v) ≡ is_some r
    go None = refl
    go (Some r) = passed (passes r v)
