-- White space, from facts on a code. Assumes nothing.
use Prim.Native.Nat.{ℕ, zero, suc, ◌≤◌, ◌<◌}
use mathlib.Core.Path.{◌≡◌, refl}
use mathlib.Core.Bool.{Bool, true, false, ◌||◌}
use mathlib.Core.List.{List, [], ◌∷◌}
use mathlib.Core.Logic.{◌⊎◌, inl, inr, ⊎_elim}
use lib.ListN.{get_or}
use native.Mathlib.Omega.{arith}
use native.Mathlib.Decide.{dec_lt}
use Rattle.utf8.specs.Utf8.{within}
use Rattle.utf8.specs.White.{is_white, among, white_ranges}
use Rattle.utf8.proofs.Ranges.{inside_range, outside}

-- outside every range: no hit
abbrev pub Outside : List (ℕ × ℕ) → ℕ → Type 0
Outside [] c = Unit {0}
Outside (r ∷ rs) c = ((c < r.0) ⊎ (r.1 < c)) × Outside rs c

not-among : (rs : List (ℕ × ℕ)) (c : ℕ) → Outside rs c → among rs c ≡ false
not-among [] c h = refl
not-among (r ∷ rs) c h = rw (outside r.0 r.1 c h.0) (not-among rs c h.1)

or_yes : (x y : Bool) → y ≡ true → (x || y) ≡ true
or_yes true y e = refl
or_yes false y e = e

-- in the k-th range: a hit
is_among : (rs : List (ℕ × ℕ)) (k c : ℕ) → (get_or rs k (1, 0)).0 ≤ c → c ≤ (get_or rs k (1, 0)).1 → among rs c ≡ true
is_among [] k c h i = absurd (omega arith)
is_among (r ∷ rs) zero c h i = rw (inside_range r.0 r.1 c h i)
is_among (r ∷ rs) (suc k) c h i = or_yes (within r.0 r.1 c) (among rs c) (is_among rs k c h i)

pub white_in : (k c : ℕ) → (get_or white_ranges k (1, 0)).0 ≤ c → c ≤ (get_or white_ranges k (1, 0)).1 → is_white c ≡ true
unfolding is_white
white_in k c h i = is_among white_ranges k c h i

pub white_outside : (c : ℕ) → Outside white_ranges c → is_white c ≡ false
unfolding is_white
white_outside c h = not-among white_ranges c h

-- visible ASCII is none
pub white_visible : (c : ℕ) → 0x20 < c → c < 0x80 → is_white c ≡ false
white_visible c h l =
    white_outside c
    (inr (omega arith), (inr (omega arith), (inl (omega arith), (inl (omega arith), (inl (omega arith), (inl (omega arith), (inl (omega arith), (inl (omega arith), (inl (omega arith), (inl (omega arith), tt))))))))))

apart : (c n : ℕ) → (c ≡ n → ⊥) → (c < n) ⊎ (n < c)
apart c n h = elim (dec_lt c n) [ yes l ↦ inl l | no m ↦ inr (omega arith) ]

-- the codes that are ranges of their own, as the code's two arms have them
abbrev pub Singles1 : ℕ → Type 0
Singles1 c = (c ≡ 0x20) ⊎ ((c ≡ 0x85) ⊎ ((c ≡ 0xA0) ⊎ (c ≡ 0x1680)))

abbrev pub Singles2 : ℕ → Type 0
Singles2 c = (c ≡ 0x202F) ⊎ ((c ≡ 0x205F) ⊎ (c ≡ 0x3000))

pub no_white : (c : ℕ) → (c < 0x09) ⊎ (0x0D < c) → (c < 0x2000) ⊎ (0x200A < c) → (c < 0x2028) ⊎ (0x2029 < c) → (Singles1 c → ⊥) → (Singles2 c → ⊥) → is_white c ≡ false
no_white c r₁ r₂ r₃ n₁ n₂ =
    white_outside c
    (r₁, (apart c 0x20 (λ e. n₁ (inl e)), (apart c 0x85 (λ e. n₁ (inr (inl e))), (apart c 0xA0 (λ e. n₁ (inr (inr (inl e)))), (apart c 0x1680 (λ e. n₁ (inr (inr (inr e)))), (r₂, (r₃, (apart c 0x202F (λ e. n₂ (inl e)), (apart c 0x205F (λ e. n₂ (inr (inl e))), (apart c 0x3000 (λ e. n₂ (inr (inr e))), tt))))))))))

pub one_of1 : (c : ℕ) → Singles1 c → is_white c ≡ true
unfolding is_white
one_of1 c h = ⊎_elim (λ e. rw e) (⊎_elim (λ e. rw e) (⊎_elim (λ e. rw e) (λ e. rw e))) h

pub one_of2 : (c : ℕ) → Singles2 c → is_white c ≡ true
unfolding is_white
one_of2 c h = ⊎_elim (λ e. rw e) (⊎_elim (λ e. rw e) (λ e. rw e)) h
