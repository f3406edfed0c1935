-- A condition is found by its number as by its text. Assumes nothing.
use Prim.Native.Nat.{ℕ, ◌+◌, ◌-◌, ◌*◌, ◌≤◌}
use mathlib.Core.Path.{◌≡◌, refl, sym, ap, ◌∙◌}
use mathlib.Core.Bool.{Bool, true, false, cond, ◌&&◌}
use mathlib.Core.List.{List, [], ◌∷◌}
use native.Mathlib.Omega.{arith}
use lib.Dec.{T, eqb}
use borrow.Author.Tests.{eq-eqb, ne_eqb, eqb-true}
use Rattle.std.specs.Prelude.{Option, Some, None, is_some}
use Rattle.std.proofs.lemmas.Option.{none-some, same_Some}
use Rattle.laws.specs.Tests.{and_both}
use Rattle.laws.specs.Tables.{both}
use Rattle.text.specs.Bytes.{same}
use Rattle.text.specs.Digits.{is_digit}
use Rattle.text.proofs.Laws.{same_equal, same_refl}
use Rattle.text.proofs.Numbers.{digit_range}
use Rattle.formats.specs.Table.{Rows, rules, id_of, same_id, rule_of, rule_at, judged_by, judged_in, verdict}
use Rattle.formats.specs.declared.FormatVerdict.TheVariants.{Unregistered}

-- a text that has a number: three digits, or UB and a digit
data Named : List ℕ → ℕ → Type 0 where
  digits : (a b c : ℕ) → (48 ≤ a) × (a ≤ 57) → (48 ≤ b) × (b ≤ 57) → (48 ≤ c) × (c ≤ 57) → Named (a ∷ b ∷ c ∷ []) ((a - 48) * 100 + (b - 48) * 10 + (c - 48))
  ub : (c : ℕ) → (48 ≤ c) × (c ≤ 57) → Named (85 ∷ 66 ∷ c ∷ []) (1000 + (c - 48))

named : (t : List ℕ) (n : ℕ) → id_of t ≡ Some n → Named t n
unfolding id_of
named [] n h = absurd (none-some n h)
named (a ∷ []) n h = absurd (none-some n h)
named (a ∷ b ∷ []) n h = absurd (none-some n h)
named (a ∷ b ∷ c ∷ d ∷ s) n h = absurd (none-some n h)
named (a ∷ b ∷ c ∷ []) n h = go (is_digit c) (is_digit a) (is_digit b) (eqb a 85 && eqb b 66) refl refl refl refl h
  where
    go : (x y z w : Bool) → is_digit c ≡ x → is_digit a ≡ y → is_digit b ≡ z → (eqb a 85 && eqb b 66) ≡ w
        → cond x (cond y (cond z (Some ((a - 48) * 100 + (b - 48) * 10 + (c - 48))) None) (cond w (Some (1000 + (c - 48))) None)) None ≡ Some n
        → Named (a ∷ b ∷ c ∷ []) n
    go true true true w p q r s h = rw (← same_Some _ n h) (digits a b c (digit_range a q) (digit_range b r) (digit_range c p))
    go true true false w p q r s h = absurd (none-some n h)
    go true false z true p q r s h =
        let e = and_both (eqb a 85) (eqb b 66) s in
        rw (← same_Some _ n h, eqb-true a 85 e.0, eqb-true b 66 e.1) (ub c (digit_range c p))
    go true false z false p q r s h = absurd (none-some n h)
    go false y z w p q r s h = absurd (none-some n h)

-- a number stands for one text only
one_text : {k t : List ℕ} {n m : ℕ} → Named k n → Named t m → n ≡ m → k ≡ t
one_text (digits a b c h i j) (digits x y z k l m) e =
    let p : a ≡ x = omega arith in
    let q : b ≡ y = omega arith in
    let r : c ≡ z = omega arith in
    rw (p, q, r)
one_text (digits a b c h i j) (ub z k) e = absurd (omega arith)
one_text (ub c h) (digits x y z k l m) e = absurd (omega arith)
one_text (ub c h) (ub z k) e = let r : c ≡ z = omega arith in rw r

-- so a text is this one exactly if it has its number
same_text : (k t : List ℕ) (n : ℕ) → id_of k ≡ Some n → same k t ≡ same_id (id_of t) (id_of k)
same_text k t n h = rw h (go (same k t) (id_of t) refl refl)
  where
    go : (x : Bool) (id : Option ℕ) → same k t ≡ x → id_of t ≡ id → x ≡ same_id id (Some n)
    go true id e f = rw (sym f ∙ ap id_of (sym (same_equal k t e)) ∙ h) (sym (eq-eqb n n refl))
    go false None e f = refl
    go false (Some m) e f = sym (ne_eqb m n (λ g. let q = one_text (named k n h) (named t m f) (sym g) in let s : same k t ≡ true = rw q (same_refl t) in let z : ◌≡◌ {A = ℕ} 0 1 = cc in omega arith))

-- each condition's text has a number
abbrev pub numbered : Rows → Bool
numbered [] = true
numbered (row ∷ rows) = both (is_some (id_of row.0)) (numbered rows)

-- a condition is found by its number as by its text
pub by_text : (rows : Rows) (t : List ℕ) → T (numbered rows) → rule_of rows t ≡ rule_at rows (id_of t)
unfolding rule_of rule_at
by_text [] t h = refl
by_text (row ∷ rows) t h = go (id_of row.0) refl h (by_text rows t)
  where
    go : (id : Option ℕ) → id_of row.0 ≡ id → T (both (is_some id) (numbered rows)) → (T (numbered rows) → rule_of rows t ≡ rule_at rows (id_of t)) → cond (same row.0 t) (Some row.1) (rule_of rows t) ≡ cond (same_id (id_of t) (id_of row.0)) (Some row.1) (rule_at rows (id_of t))
    go (Some n) e h more = rw (same_text row.0 t n e, more h)
    go None e h more = absurd h

-- so each of the 47 is found
table_by_text : (t : List ℕ) → rule_at rules (id_of t) ≡ rule_of rules t
unfolding id_of
table_by_text t = sym (by_text rules t tt)

module _ (t v : List ℕ) where
  -- the verdict by a text's number
  pub verdict_some : (n : ℕ) → id_of t ≡ Some n → judged_in rules n v ≡ verdict t v
  unfolding judged_in verdict
  verdict_some n h = ap (λ r. judged_by r v) (rw h at (table_by_text t))

  -- no number, no verdict
  pub verdict_none : id_of t ≡ None → Unregistered ≡ verdict t v
  unfolding verdict rule_at
  verdict_none h = ap (λ r. judged_by r v) (rw h at (table_by_text t))
