-- What an Unknown rests on. The theorems stand in proofs/Unknown. Assumes nothing.
use Rattle.std.specs.Prelude.{◌≡◌, Bool, true, ℕ, List, Result, Ok}
use mathlib.Core.List.{Memᴰ}
use Rattle.citation.specs.Kinds.{kind_of}
use Rattle.citation.specs.declared.Truth.{Truth}
use Rattle.citation.specs.declared.Truth.TheVariants.{Unknown}
use Rattle.formats.specs.declared.FormatVerdict.TheVariants.{Unregistered}
use Rattle.formats.specs.Table.{verdict}
use Rattle.semantics.specs.Truth.{is_judged}
use Rattle.refusal.specs.declared.Refusal.{Refusal}

module _ (oracle : ℕ → Result Truth Refusal) where
  -- a citation that is evaluated and answered with Unknown
  pub record UnknownAmong (evaluated : ℕ → Bool) : Type 0 where
    pub number : ℕ
    pub is_evaluated : evaluated number ≡ true
    pub answer : oracle number ≡ Ok Unknown

module _ (value : List ℕ) where
  -- a cited Format or Zeitpunkt condition without an evaluator
  pub record UnregisteredAmong (texts : List (List ℕ)) : Type 0 where
    pub text : List ℕ
    pub cited : Memᴰ text texts
    pub judged : is_judged (kind_of text) ≡ true
    pub unregistered : verdict text value ≡ Unregistered
