-- A list that is made of another, one item more a turn. Assumes nothing.
use Prim.Native.Nat.{ℕ, ◌+◌, ◌≤◌, ◌<◌}
use mathlib.Core.Path.{◌≡◌, ap, ◌∙◌}
use mathlib.Core.List.{List, [], ◌∷◌, ◌++◌}
use native.Mathlib.Numerals.{add-one}
use native.Mathlib.Omega.{arith}
use lib.ListN.{length, get_or, take, set}
use lib.Seq.{take-suc, take-suc-set, take_all}
use Rattle.std.specs.Prelude.{map}
use Rattle.std.proofs.lemmas.List.{map-append}

-- the first i are made
abbrev pub Mapped : {A B : Type 0} → (A → B) → List A → List B → ℕ → Type 0
Mapped of items out i = take i out ≡ map of (take i items)

module _ {A B : Type 0} (of : A → B) (items : List A) (out : List B) (i : ℕ) where
  pub mapped_next : (d : A) (b : B) → i < length items → i < length out → b ≡ of (get_or items i d) → Mapped of items out i → Mapped of items (set out i b) (i + 1)
  mapped_next d b h k e m =
      rw (add-one i, e, take-suc-set out i (of (get_or items i d)) k, take-suc items i d h, map-append of (take i items) (get_or items i d ∷ []))
      (ap (λ x. x ++ (of (get_or items i d) ∷ [])) m)

  pub mapped_all : length items ≤ i → i ≤ length items → Mapped of items out i → take (length items) out ≡ map of items
  mapped_all h k m =
      let e : length items ≡ i = omega arith in
      rw e (m ∙ ap (map of) (take_all i items h))
