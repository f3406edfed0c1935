-- An answer, or a refusal: std's `Result` with `Refusal` as its error. Assumes nothing.
use Rattle.std.specs.Prelude.{◌≡◌, refl, Bool, true, false, Result, Ok, Err}
use mathlib.Mathlib.Logic.Function.Defs.{Injective}
use Rattle.refusal.specs.declared.Refusal.{Refusal}

module _ {A : Type 0} where
  -- turned back for this reason, unless the test holds
  abbrev pub unless : Bool → Refusal → Result A Refusal → Result A Refusal
  unless true why r = r
  unless false why r = Err why

  -- a refusal, as an answer, names its reason
  pub refuse_injective : let refuse : Refusal → Result A Refusal = λ why. Err why in Injective refuse
  refuse_injective a b h = cc

  -- a refusal is no value
  pub err≢ok : {why : Refusal} {a : A} → Err why ≡ Ok a → ⊥
  err≢ok h = cc

  -- what was not turned back passed the test
  pub unless_ok : (t : Bool) (why : Refusal) (r : Result A Refusal) (a : A) → unless t why r ≡ Ok a → (t ≡ true) × (r ≡ Ok a)
  unless_ok true why r a h = (refl, h)
  unless_ok false why r a h = absurd (err≢ok h)

module _ {A B : Type 0} where
  -- the value changed, a refusal passed on
  unfoldable pub map_ok : (A → B) → Result A Refusal → Result B Refusal
  map_ok f (Ok a) = Ok (f a)
  map_ok f (Err why) = Err why

  -- one step and then the next, a refusal passed on
  unfoldable pub then : Result A Refusal → (A → Result B Refusal) → Result B Refusal
  then (Ok a) f = f a
  then (Err why) f = Err why
