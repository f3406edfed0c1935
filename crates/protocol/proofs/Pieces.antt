-- The pieces of a line are the parts that `split` gives. Assumes nothing.
use Prim.Native.Nat.{ℕ, ◌+◌, ◌≤◌, ◌<◌}
use mathlib.Core.Path.{◌≡◌, refl, sym, ap, ◌∙◌}
use mathlib.Core.Bool.{Bool, true, false}
use mathlib.Core.List.{List, [], ◌∷◌}
use native.Mathlib.Omega.{arith}
use mir.Val.{bool_byte}
use lib.ListN.{length, take}
use lib.Seq.{take_all}
use lib.Dec.{eqb}
use Rattle.std.specs.List.{slice_split, slice_get, onto_first, count_by}
use Rattle.std.specs.Option.{option_map, unwrap_or}
use Rattle.std.proofs.Common.{Option, None, Some, Bor, get_or}
use Rattle.std.proofs.lemmas.Option.{unwrap_or-slice_get}
use Rattle.std.proofs.lemmas.List.Splits.{length-slice_split}
use Rattle.std.proofs.lemmas.List.Sums.{count_by_more_no, count_by_more_yes}
use Rattle.protocol.specs.Pieces.{grown, pieces}

onto : (b : ℕ) (ps : List (List ℕ)) → grown b ps ≡ onto_first b ps
onto b [] = refl
onto b (p ∷ ps) = refl

pub pieces_split : (s : List ℕ) → pieces s ≡ slice_split (λ b. eqb b 32) s
unfolding pieces
pieces_split [] = refl
pieces_split (b ∷ s) = rw (pieces_split s, onto)

pub pieces_count : (s : List ℕ) → length (pieces s) ≡ count_by (λ b. eqb b 32) s + 1
pieces_count s = ap (λ (ps : List (List ℕ)). length ps) (pieces_split s) ∙ length-slice_split (λ b. eqb b 32) s

now_or : (o : Option (Bor (List ℕ))) (d : Bor (List ℕ)) → (unwrap_or o d).now ≡ unwrap_or (option_map (λ x. x.now) o) d.now
now_or None d = refl
now_or (Some x) d = refl

-- a part by its number, seen through a reference
pub pieces_at : (s : List ℕ) (n : ℕ) (o : Option (Bor (List ℕ))) (d : Bor (List ℕ)) → option_map (λ x. x.now) o ≡ slice_get (slice_split (λ b. eqb b 32) s) n → d.now ≡ [] → (unwrap_or o d).now ≡ get_or (pieces s) n []
pieces_at s n o d e z = now_or o d ∙ rw (e, z, pieces_split s) (unwrap_or-slice_get (slice_split (λ b. eqb b 32) s) n [])

-- the spaces among the first i bytes
abbrev pub spaces : List ℕ → ℕ → ℕ
spaces s i = count_by (λ b. eqb b 32) (take i s)

-- one byte more
pub spaces_more : (s : List ℕ) (i : ℕ) → i < length s → spaces s (i + 1) ≡ spaces s i + bool_byte (eqb (get_or s i 0) 32)
spaces_more s i h = go (eqb (get_or s i 0) 32) refl
  where
    go : (t : Bool) → eqb (get_or s i 0) 32 ≡ t → spaces s (i + 1) ≡ spaces s i + bool_byte t
    go true e = count_by_more_yes (λ b. eqb b 32) s i 0 h e
    go false e = count_by_more_no (λ b. eqb b 32) s i 0 h e ∙ omega arith

-- all of them: one piece more
pub spaces_all : (s : List ℕ) (i : ℕ) → length s ≤ i → length (pieces s) ≡ spaces s i + 1
spaces_all s i h = pieces_count s ∙ ap (λ x. count_by (λ b. eqb b 32) x + 1) (sym (take_all i s h))
