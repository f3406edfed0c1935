-- Laws of byte strings, as a loop over one byte a turn uses them. Assumes nothing.
use Prim.Native.Nat.{ℕ, suc, ◌+◌, ◌-◌, ◌≤◌, ◌<◌, min}
use mathlib.Core.Path.{◌≡◌, refl, sym, ap, ap₂, subst, ◌∙◌}
use mathlib.Core.Bool.{Bool, true, false, cond, ◌&&◌, and-false}
use mathlib.Core.List.{List, [], ◌∷◌}
use native.Mathlib.Omega.{arith}
use native.Mathlib.Numerals.{add-one}
use native.Mathlib.Decide.{dec_lt}
use lib.ListN.{length, get_or, take, drop, drop_of_length-le, length-drop}
use lib.Seq.{drop-cons, drop-length, take-length, take_all}
use lib.Dec.{eqb}
use borrow.Author.Tests.{eq-eqb, eqb-true, le-leb, lt-leb, lt-ltb, le-ltb}
use Rattle.std.specs.List.{list_all}
use Rattle.std.specs.Cmp.Lexicographic.{pointwise}
use Rattle.std.proofs.lemmas.Bool.Decides.{Decides-eqb, same_from_decides}
use Rattle.std.proofs.lemmas.Slice.Eq.{bytes_eq-Decides}
use Rattle.laws.specs.Tests.{and_both}
use Rattle.std.specs.Prelude.{Some, None, is_some, unwrap_or}
use Rattle.text.specs.Bytes.{all, begins, ends, same, place, has, position}

-- a place past the end is the end
module _ (n : ℕ) (s : List ℕ) where
  pub drop_capped : drop (min n (length s)) s ≡ drop n s
  drop_capped = go (dec_lt (length s) n)
    where
      go : Dec (length s < n) → drop (min n (length s)) s ≡ drop n s
      go (yes h) =
          let e : min n (length s) ≡ length s = omega arith in
          rw e (drop-length s ∙ sym (drop_of_length-le s {i = n} (omega arith)))
      go (no h) =
          let e : min n (length s) ≡ n = omega arith in
          rw e

  pub take_capped : take (min n (length s)) s ≡ take n s
  take_capped = go (dec_lt (length s) n)
    where
      go : Dec (length s < n) → take (min n (length s)) s ≡ take n s
      go (yes h) =
          let e : min n (length s) ≡ length s = omega arith in
          rw e (take-length s ∙ sym (take_all n s (omega arith)))
      go (no h) =
          let e : min n (length s) ≡ n = omega arith in
          rw e

module _ (f : ℕ → Bool) (s : List ℕ) (i : ℕ) where
  pub all_pass : i < length s → f (get_or s i 0) ≡ true → all f (drop (i + 1) s) ≡ all f (drop i s)
  all_pass h t = rw (drop-cons s i 0 h, add-one, t)

  pub all_fail : i < length s → f (get_or s i 0) ≡ false → false ≡ all f (drop i s)
  all_fail h t = rw (drop-cons s i 0 h, t)

  pub all_end : length s ≤ i → true ≡ all f (drop i s)
  all_end h = rw (drop_of_length-le s h)

module _ (t s : List ℕ) (i : ℕ) where
  step : i < length s → place t (drop i s) ≡ cond (begins t (drop i s)) 0 (suc (place t (drop (i + 1) s)))
  step h = rw (drop-cons s i 0 h, add-one)

  pub place_here : i < length s → begins t (drop i s) ≡ true → place t (drop i s) ≡ 0
  place_here h e = step h ∙ rw e

  pub place-not : i < length s → begins t (drop i s) ≡ false → place t (drop i s) ≡ place t (drop (i + 1) s) + 1
  place-not h e = step h ∙ rw e (sym (add-one (place t (drop (i + 1) s))))

  pub place_end : length s ≤ i → place t (drop i s) ≡ 0
  place_end h = rw (drop_of_length-le s h)

pub place_le : (t s : List ℕ) → place t s ≤ length s
place_le t [] = omega arith
place_le t (b ∷ s) = go (begins t (b ∷ s)) (place_le t s)
  where
    go : (x : Bool) → place t s ≤ length s → cond x 0 (suc (place t s)) ≤ suc (length s)
    go true h = omega arith
    go false h = omega arith

-- a place within the text is one, and its end is none
module _ (t s : List ℕ) where
  pub position_here : (i : ℕ) → place t s ≡ i → i < length s → position t s ≡ Some i
  position_here i e h = rw (e, lt-ltb i (length s) h)

  pub position_none : length s ≤ place t s → position t s ≡ None
  position_none h = rw (le-ltb (place t s) (length s) h)

  pub position_or : unwrap_or (position t s) (length s) ≡ place t s
  position_or = go (dec_lt (place t s) (length s))
    where
      go : Dec (place t s < length s) → unwrap_or (position t s) (length s) ≡ place t s
      go (yes h) = rw (position_here (place t s) refl h)
      go (no h) = rw (position_none (omega arith)) (omega (arith, place_le t s))

  pub position_some : is_some (position t s) ≡ has t s
  position_some = go (has t s)
    where
      go : (b : Bool) → is_some (cond b (Some (place t s)) None) ≡ b
      go true = refl
      go false = refl

-- equal byte strings are one
pub same_equal : (t s : List ℕ) → same t s ≡ true → t ≡ s
same_equal t s h =
    let q = and_both (eqb (length s) (length t)) (begins t s) h in
    go t s (eqb-true (length s) (length t) q.0) q.1
  where
    go : (t s : List ℕ) → length s ≡ length t → begins t s ≡ true → t ≡ s
    go [] [] e h = refl
    go [] (b ∷ s) e h = absurd (omega arith)
    go (a ∷ t) [] e h = absurd (omega arith)
    go (a ∷ t) (b ∷ s) e h =
        let q = and_both (eqb b a) (begins t s) h in
        ap₂ ◌∷◌ (sym (eqb-true b a q.0)) (go t s (omega arith) q.1)

pub same_refl : (s : List ℕ) → same s s ≡ true
same_refl s = rw (eq-eqb (length s) (length s) refl) (go s)
  where
    go : (s : List ℕ) → begins s s ≡ true
    go [] = refl
    go (b ∷ s) = rw (eq-eqb b b refl) (go s)

eqb_turn : (a b : ℕ) → eqb a b ≡ eqb b a
eqb_turn a b =
    let d = Decides-eqb b a in
    same_from_decides (eqb a b) (eqb b a) (Decides-eqb a b) (λ e. sym (d.0 e), λ e. d.1 (sym e))

-- std's `starts_with`, `ends_with` and `==` on bytes say what the definitions here say
pub starts_is_begins : (t s : List ℕ) → pointwise eqb t (take (length t) s) ≡ begins t s
starts_is_begins [] s = refl
starts_is_begins (a ∷ t) [] = refl
starts_is_begins (a ∷ t) (b ∷ s) = rw (eqb_turn a b, starts_is_begins t s)

longer_differs : (t s : List ℕ) → length s < length t → pointwise eqb t s ≡ false
longer_differs [] s h = absurd (omega arith)
longer_differs (a ∷ t) [] h = refl
longer_differs (a ∷ t) (b ∷ s) h = rw (longer_differs t s (omega arith), and-false (eqb a b))

pub ends_is_ends : (t s : List ℕ) → pointwise eqb t (drop (length s - length t) s) ≡ ends t s
ends_is_ends t s = go (dec_lt (length s) (length t))
  where
    go : Dec (length s < length t) → pointwise eqb t (drop (length s - length t) s) ≡ ends t s
    go (yes h) =
        let e : length s - length t ≡ 0 = omega arith in
        rw (lt-leb (length t) (length s) h, e) (longer_differs t s h)
    go (no h) =
        let n = length s - length t in
        let l : length (drop n s) ≤ length t = omega (arith, length-drop n s) in
        rw (le-leb (length t) (length s) (omega arith))
        (sym (ap (pointwise eqb t) (take_all (length t) (drop n s) l)) ∙ starts_is_begins t (drop n s))

pub equals_is_same : (t s : List ℕ) → pointwise eqb s t ≡ same t s
equals_is_same t s =
    same_from_decides (pointwise eqb s t) (same t s) (bytes_eq-Decides s t)
    (λ h. sym (same_equal t s h), λ e. subst (λ (x : List ℕ). same t x ≡ true) (sym e) (same_refl t))

pub all_is_all : (f : ℕ → Bool) (s : List ℕ) → list_all f s ≡ all f s
all_is_all f [] = refl
all_is_all f (b ∷ s) = ap (λ (t : Bool). f b && t) (all_is_all f s)

pub empty : (s : List ℕ) → length s ≡ 0 → s ≡ []
empty [] h = refl
empty (b ∷ s) h = absurd (omega arith)
