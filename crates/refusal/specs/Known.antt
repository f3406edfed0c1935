-- Refusals of the table: an answer of a kind, or a refusal that the table has. Assumes nothing.
use Rattle.std.specs.Prelude.{◌≡◌, refl, Bool, true, false, ℕ, ◌≤◌, Result, Ok, Err}
use Rattle.std.proofs.Common.{arith}
use Rattle.refusal.specs.Result.{unless, then, map_ok}
use Rattle.refusal.specs.Refusals.{number_of}
use Rattle.refusal.specs.declared.Refusal.{Refusal}
use Rattle.refusal.specs.declared.Refusal.TheVariants.{Stray, Unterminated, EmptyCondition, MissingOperand, Parentheses, Empty, ChoiceOverNeutral, FailedAnswer, NoStatusWord, TooLong, NotUtf8, TooManyCitations, TooDeep, NoRoom, NotATree, WrongAnswers, NotAPaket}

-- the number of a refusal of the table
abbrev pub Named : ℕ → Type 0
Named k = (why : Refusal) × (k ≡ number_of why)

-- the last number of the table
abbrev pub last_refusal : ℕ
last_refusal = 17

-- no refusal has a larger one
pub named_most : (why : Refusal) → number_of why ≤ last_refusal
named_most Stray = omega arith
named_most Unterminated = omega arith
named_most EmptyCondition = omega arith
named_most MissingOperand = omega arith
named_most Parentheses = omega arith
named_most Empty = omega arith
named_most ChoiceOverNeutral = omega arith
named_most FailedAnswer = omega arith
named_most NoStatusWord = omega arith
named_most TooLong = omega arith
named_most NotUtf8 = omega arith
named_most TooManyCitations = omega arith
named_most TooDeep = omega arith
named_most NoRoom = omega arith
named_most NotATree = omega arith
named_most WrongAnswers = omega arith
named_most NotAPaket = omega arith

-- an answer that is of a kind, or a refusal of the table
abbrev pub Among : {A : Type 0} → (A → Type 0) → Result A Refusal → Type 0
Among P (Ok a) = P a
Among P (Err why) = Named (number_of why)

-- any answer, or a refusal of the table
abbrev pub Known : {A : Type 0} → Result A Refusal → Type 0
Known r = Among (λ _. Unit {0}) r

module _ {A : Type 0} (P : A → Type 0) where
  -- a test adds a refusal of the table
  pub unless-among : (t : Bool) (why : Refusal) (r : Result A Refusal) → Among P r → Among P (unless t why r)
  unless-among true why r h = h
  unless-among false why r h = (why, refl)

  -- what is known of the answers of a kind
  pub known_among : (r : Result A Refusal) → Known r → ((a : A) → r ≡ Ok a → P a) → Among P r
  known_among (Ok a) h p = p a refl
  known_among (Err k) h p = h

  -- one of a kind is one
  pub among_known : (r : Result A Refusal) → Among P r → Known r
  among_known (Ok a) h = tt
  among_known (Err k) h = h

module _ {A B : Type 0} (P : B → Type 0) where
  -- the answer changed
  pub map-among : (f : A → B) (r : Result A Refusal) → Among (λ a. P (f a)) r → Among P (map_ok f r)
  unfolding map_ok
  map-among f (Ok a) h = h
  map-among f (Err k) h = h

  -- one step and then the next
  pub then-among : (r : Result A Refusal) (f : A → Result B Refusal) → Among (λ a. Among P (f a)) r → Among P (then r f)
  unfolding then
  then-among (Ok a) f h = h
  then-among (Err k) f h = h

module _ {A B : Type 0} where
  -- the answer changed
  pub map_known : (f : A → B) (r : Result A Refusal) → Known r → Known (map_ok f r)
  map_known f r h = map-among (λ _. Unit {0}) f r h

  -- one step and then the next
  pub then_known : (r : Result A Refusal) (f : A → Result B Refusal) → Known r → ((a : A) → Known (f a)) → Known (then r f)
  then_known r f h g = then-among (λ _. Unit {0}) r f (known_among (λ a. Known (f a)) r h (λ a _. g a))
