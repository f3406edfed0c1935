-- Bytes written one after another: one byte, nothing, two texts, a text byte by byte. Assumes nothing.
use mathlib.Core.Path.{◌≡◌, refl, sym, ap, ◌∙◌, subst}
use mathlib.Core.List.{List, [], ◌∷◌, ◌++◌, append_assoc, append-nil}
use Prim.Native.Nat.{ℕ, zero, suc, ◌+◌, ◌-◌, ◌/◌, ◌%◌, ◌≤◌, ◌<◌}
use native.Mathlib.Numerals.{add-one}
use native.Mathlib.Omega.{arith}
use lib.ListN.{length, get_or, take, drop, set, length-append}
use lib.Seq.{take-suc, take-suc-set, take_all, drop-set-lt, drop-drop}
use Rattle.std.specs.Int.{w16, to_le_bytes}
use Rattle.grammar.specs.Bytes.{two_bytes}
use Rattle.fields.specs.Appended.{Appended}

-- one byte
pub byte : (old : List ℕ) (at b : ℕ) → at < length old → Appended (b ∷ []) at old (set old at b) (at + 1)
byte old at b h = record { ends = refl; has = rw add-one (take-suc-set old at b h); rest = drop-set-lt (at + 1) old at b (omega arith) }

-- nothing
pub nothing : (at : ℕ) (l : List ℕ) → Appended [] at l l at
nothing at l = record { ends = omega arith; has = sym (append-nil (take at l)); rest = refl }

-- a rest that stayed stays further on
pub on : {A : Type 0} (p q : ℕ) (l₀ l₁ : List A) → p ≤ q → drop p l₁ ≡ drop p l₀ → drop q l₁ ≡ drop q l₀
on p q l₀ l₁ h e =
    let sum : p + (q - p) ≡ q = omega arith in
    ap (λ (x : ℕ). drop x l₁) (sym sum) ∙ sym (drop-drop (q - p) p l₁) ∙ ap (drop (q - p)) e ∙ drop-drop (q - p) p l₀ ∙ ap (λ (x : ℕ). drop x l₀) sum

-- a text, and then another
pub both : {a b : List ℕ} {at p q : ℕ} {l₀ l₁ l₂ : List ℕ} → Appended a at l₀ l₁ p → Appended b p l₁ l₂ q → Appended (a ++ b) at l₀ l₂ q
both {a} {b} {at} {p} {q} {l₀} {l₁} h k = record {
  ends = omega (arith, h.ends, k.ends, length-append a b);
  has = k.has ∙ ap (λ x. x ++ b) h.has ∙ append_assoc (take at l₀) a b;
  rest = k.rest ∙ on p q l₀ l₁ (omega (arith, k.ends)) h.rest;
}

-- the same text, said otherwise
pub same : {a b : List ℕ} {at q : ℕ} {l₀ l₁ : List ℕ} → a ≡ b → Appended a at l₀ l₁ q → Appended b at l₀ l₁ q
same {a} {b} {at} {q} {l₀} {l₁} e h = subst (λ x. Appended x at l₀ l₁ q) e h

take_whole : (n : ℕ) (l : List ℕ) → take n l ++ drop n l ≡ l
take_whole zero l = refl
take_whole (suc n) [] = refl
take_whole (suc n) (x ∷ l) = ap (λ y. x ∷ y) (take_whole n l)

-- what is written from the first byte on
pub whole : {text : List ℕ} {q : ℕ} {old new : List ℕ} → Appended text 0 old new q → new ≡ text ++ drop (length text) old
whole {text} {q} {old} {new} h =
    let e : q ≡ length text = omega (arith, h.ends) in
    sym (take_whole q new) ∙ ap (λ x. x ++ drop q new) h.has ∙ ap (λ x. text ++ x) h.rest ∙ ap (λ (x : ℕ). text ++ drop x old) e

-- the two bytes of a number as std says them
pub two_said : (v : ℕ) → v < 65536 → to_le_bytes w16 v ≡ two_bytes v
unfolding two_bytes
two_said v h =
    let e : v / 256 % 256 ≡ v / 256 = omega arith in
    ap (λ x. (v % 256) ∷ x ∷ []) e

-- a loop over the bytes of a text, after one turn more
pub text_next : (text base out : List ℕ) (at i : ℕ) → i < length text → at + i < length out → Appended (take i text) at base out (at + i)
    → Appended (take (i + 1) text) at base (set out (at + i) (get_or text i 0)) (at + (i + 1))
text_next text base out at i h l k =
    let one : at + i + 1 ≡ at + (i + 1) = omega arith in
    let more : take i text ++ (get_or text i 0 ∷ []) ≡ take (i + 1) text = rw add-one (sym (take-suc text i 0 h)) in
    rw one at (same more (both k (byte out (at + i) (get_or text i 0) l)))

-- after the last
pub text_done : (text base out : List ℕ) (at i : ℕ) → i ≡ length text → Appended (take i text) at base out (at + i) → Appended text at base out (at + length text)
text_done text base out at i e k = rw e at (same (take_all i text (omega (arith, e))) k)

-- the length of two bytes
pub two_size : (v : ℕ) → length (two_bytes v) ≡ 2
unfolding two_bytes
two_size v = refl

-- where two bytes end
pub ends_two : (v : ℕ) {at q : ℕ} {old new : List ℕ} → Appended (two_bytes v) at old new q → q ≡ at + 2
ends_two v {at} h = h.ends ∙ ap (λ (x : ℕ). at + x) (two_size v)
