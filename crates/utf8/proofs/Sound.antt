-- Well-formed text is what the encoding makes of scalar values. Assumes nothing.
use Prim.Native.Nat.{ℕ, zero, suc, ◌+◌, ◌-◌, ◌*◌, ◌/◌, ◌%◌, ◌≤◌, ◌<◌}
use mathlib.Core.Path.{◌≡◌, refl, sym, ap, ◌∙◌}
use mathlib.Core.Bool.{Bool, true, false, cond}
use mathlib.Core.List.{List, [], ◌∷◌, ◌++◌}
use Rattle.std.specs.Prelude.{Option, Some, None}
use mathlib.Core.Logic.{◌⊎◌, inl, inr, ⊎_elim}
use native.Mathlib.Nat.{div-div-eq-div-mul}
use native.Mathlib.Numerals.{add-one}
use native.Mathlib.Omega.{arith}
use lib.ListN.{length, drop, length-drop}
use lib.Arith.{digits_div, digits_mod}
use lib.Dec.{ltb}
use borrow.Author.Tests.{lt-ltb, le-ltb, ltb-true, ltb-false}
use Rattle.laws.specs.Tests.{cond_both}
use Rattle.utf8.specs.Utf8.{Lead, lead_of, within, code_of, char_of, with_lead, step_of, is_utf8, decode, encode_char, encode, Scalar, Scalars}
use Rattle.utf8.specs.declared.Step.{Step}
use Rattle.utf8.specs.declared.Step.TheVariants.{Char, Bad, End}
use Rattle.utf8.proofs.Ranges.{within_both}
use Rattle.utf8.proofs.Laws.{step_char, step_bad, step_end, decode_nil}

-- the byte that was read
abbrev Byte : (k low high code : ℕ) → List ℕ → ℕ → Type 0
Byte k low high code s c = (x : ℕ) × (t : List ℕ) × (s ≡ x ∷ t) × (low ≤ x) × (x ≤ high) × (code_of k 0x80 0xBF (code * 64 + (x - 0x80)) t ≡ Some c)

read_byte : (k low high code : ℕ) (s : List ℕ) (c : ℕ) → code_of (suc k) low high code s ≡ Some c → Byte k low high code s c
read_byte k low high code [] c e = let z : ◌≡◌ {A = ℕ} 0 1 = cc in absurd (omega arith)
read_byte k low high code (x ∷ t) c e = go (within low high x) refl e
  where
    go : (q : Bool) → within low high x ≡ q → cond q (code_of k 0x80 0xBF (code * 64 + (x - 0x80)) t) None ≡ Some c → Byte k low high code (x ∷ t) c
    go true h e = let r = within_both low high x h in (x, t, refl, r.0, r.1, e)
    go false h e = let z : ◌≡◌ {A = ℕ} 0 1 = cc in absurd (omega arith)

-- six bits more
module _ (v x : ℕ) (low : 0x80 ≤ x) (high : x ≤ 0xBF) where
  div64 : (v * 64 + (x - 0x80)) / 64 ≡ v
  div64 = digits_div v (omega arith)

  mod64 : 0x80 + (v * 64 + (x - 0x80)) % 64 ≡ x
  mod64 = ap (λ (n : ℕ). 0x80 + n) (digits_mod v (omega arith)) ∙ lin
    where
      lin : 0x80 + (x - 0x80) ≡ x
      lin = omega arith

bytes_2 : (c : ℕ) → 0x80 ≤ c → c < 0x800 → encode_char c ≡ (0xC0 + c / 64) ∷ (0x80 + c % 64) ∷ []
unfolding encode_char
bytes_2 c h k = simp (le-ltb c 0x80 h, lt-ltb c 0x800 k)

bytes_3 : (c : ℕ) → 0x800 ≤ c → c < 0x10000 → encode_char c ≡ (0xE0 + c / 4096) ∷ (0x80 + c / 64 % 64) ∷ (0x80 + c % 64) ∷ []
unfolding encode_char
bytes_3 c h k = simp (le-ltb c 0x80 (omega arith), le-ltb c 0x800 h, lt-ltb c 0x10000 k)

bytes_4 : (c : ℕ) → 0x10000 ≤ c → encode_char c ≡ (0xF0 + c / 262144) ∷ (0x80 + c / 4096 % 64) ∷ (0x80 + c / 64 % 64) ∷ (0x80 + c % 64) ∷ []
unfolding encode_char
bytes_4 c h = simp (le-ltb c 0x80 (omega arith), le-ltb c 0x800 (omega arith), le-ltb c 0x10000 h)

abbrev Sound : ℕ → Lead → Type 0
Sound b None = Unit {0}
Sound b (Some (more, low, high, code)) = (s : List ℕ) (c : ℕ) → code_of more low high code s ≡ Some c → Scalar c × (encode_char c ++ drop more s ≡ b ∷ s)

sound_1 : (b : ℕ) → b < 0x80 → Sound b (Some (0, 0x80, 0xBF, b))
unfolding encode_char
sound_1 b h s c e =
    let d : b ≡ c = cc in
    (inl (omega arith), rw (← d) (simp (lt-ltb b 0x80 h)))

some_inj : {m n : ℕ} → Some m ≡ Some n → m ≡ n
some_inj g = cc

sound_2 : (b : ℕ) → 0xC2 ≤ b → b < 0xE0 → Sound b (Some (1, 0x80, 0xBF, b - 0xC0))
sound_2 b h k s c e =
    let r = read_byte 0 0x80 0xBF (b - 0xC0) s c e in
    let x = r.0 in
    let d : (b - 0xC0) * 64 + (x - 0x80) ≡ c = some_inj r.5 in
    let o : 0xC0 + (b - 0xC0) ≡ b = omega arith in
    let p : 0xC0 + c / 64 ≡ b = ap (λ (n : ℕ). 0xC0 + n / 64) (sym d) ∙ ap (λ (n : ℕ). 0xC0 + n) (div64 (b - 0xC0) x r.3 r.4) ∙ o in
    let q : 0x80 + c % 64 ≡ x = ap (λ (n : ℕ). 0x80 + n % 64) (sym d) ∙ mod64 (b - 0xC0) x r.3 r.4 in
    (inl (omega (arith, r.3, r.4)), rw (r.2, bytes_2 c (omega (arith, r.3, r.4)) (omega (arith, r.3, r.4)), p, q))

-- three bytes: the first two give v, neither short nor a surrogate's
sound_3 : (b low high code : ℕ) → 0xE0 + code ≡ b → code < 16 → 0x80 ≤ low → high ≤ 0xBF → ((x : ℕ) → low ≤ x → x ≤ high → (0x20 ≤ code * 64 + (x - 0x80)) × ((code * 64 + (x - 0x80) < 0x360) ⊎ (0x380 ≤ code * 64 + (x - 0x80)))) → Sound b (Some (2, low, high, code))
sound_3 b low high code eb hc hl hh ok s c e =
    let r = read_byte 1 low high code s c e in
    let x = r.0 in
    let v = code * 64 + (x - 0x80) in
    let r₂ = read_byte 0 0x80 0xBF v r.1 c r.5 in
    let y = r₂.0 in
    let xl : 0x80 ≤ x = omega (arith, r.3) in
    let xh : x ≤ 0xBF = omega (arith, r.4) in
    let d : v * 64 + (y - 0x80) ≡ c = some_inj r₂.5 in
    let a₁ : c / 64 ≡ v = ap (λ (n : ℕ). n / 64) (sym d) ∙ div64 v y r₂.3 r₂.4 in
    let a₂ : c / 4096 ≡ code = sym (div-div-eq-div-mul c 64 64) ∙ ap (λ (n : ℕ). n / 64) a₁ ∙ div64 code x xl xh in
    let p : 0xE0 + c / 4096 ≡ b = ap (λ (n : ℕ). 0xE0 + n) a₂ ∙ eb in
    let q : 0x80 + c / 64 % 64 ≡ x = ap (λ (n : ℕ). 0x80 + n % 64) a₁ ∙ mod64 code x xl xh in
    let w : 0x80 + c % 64 ≡ y = ap (λ (n : ℕ). 0x80 + n % 64) (sym d) ∙ mod64 v y r₂.3 r₂.4 in
    let g = ok x r.3 r.4 in
    let n₁ : 0x20 ≤ v = g.0 in
    let y₁ = r₂.3 in
    let y₂ = r₂.4 in (
      ⊎_elim (λ z. inl (near v y c d z y₂)) (λ z. inr (far v y c d z, top v y c d (lin code x hc xh xl) y₂)) g.1,
      rw (r.2, r₂.2, bytes_3 c (least v y c d n₁) (below v y c d (lin code x hc xh xl) y₂), p, q, w),
    )
  where
    lin : (code x : ℕ) → code < 16 → x ≤ 0xBF → 0x80 ≤ x → code * 64 + (x - 0x80) < 1024
    lin code x a b c = omega arith

    near : (v y c : ℕ) → v * 64 + (y - 0x80) ≡ c → v < 0x360 → y ≤ 0xBF → c < 0xD800
    near v y c d z k = omega arith

    far : (v y c : ℕ) → v * 64 + (y - 0x80) ≡ c → 0x380 ≤ v → 0xE000 ≤ c
    far v y c d z = omega arith

    top : (v y c : ℕ) → v * 64 + (y - 0x80) ≡ c → v < 1024 → y ≤ 0xBF → c < 0x110000
    top v y c d z k = omega arith

    least : (v y c : ℕ) → v * 64 + (y - 0x80) ≡ c → 0x20 ≤ v → 0x800 ≤ c
    least v y c d z = omega arith

    below : (v y c : ℕ) → v * 64 + (y - 0x80) ≡ c → v < 1024 → y ≤ 0xBF → c < 0x10000
    below v y c d z k = omega arith

sound_4 : (b low high code : ℕ) → 0xF0 + code ≡ b → 0x80 ≤ low → high ≤ 0xBF → ((x : ℕ) → low ≤ x → x ≤ high → (0x10 ≤ code * 64 + (x - 0x80)) × (code * 64 + (x - 0x80) < 0x110)) → Sound b (Some (3, low, high, code))
sound_4 b low high code eb hl hh ok s c e =
    let r = read_byte 2 low high code s c e in
    let x = r.0 in
    let v = code * 64 + (x - 0x80) in
    let r₂ = read_byte 1 0x80 0xBF v r.1 c r.5 in
    let y = r₂.0 in
    let u = v * 64 + (y - 0x80) in
    let r₃ = read_byte 0 0x80 0xBF u r₂.1 c r₂.5 in
    let z = r₃.0 in
    let xl : 0x80 ≤ x = omega (arith, r.3) in
    let xh : x ≤ 0xBF = omega (arith, r.4) in
    let d : u * 64 + (z - 0x80) ≡ c = some_inj r₃.5 in
    let a₁ : c / 64 ≡ u = ap (λ (n : ℕ). n / 64) (sym d) ∙ div64 u z r₃.3 r₃.4 in
    let a₂ : c / 4096 ≡ v = sym (div-div-eq-div-mul c 64 64) ∙ ap (λ (n : ℕ). n / 64) a₁ ∙ div64 v y r₂.3 r₂.4 in
    let a₃ : c / 262144 ≡ code = sym (div-div-eq-div-mul c 4096 64) ∙ ap (λ (n : ℕ). n / 64) a₂ ∙ div64 code x xl xh in
    let p : 0xF0 + c / 262144 ≡ b = ap (λ (n : ℕ). 0xF0 + n) a₃ ∙ eb in
    let q : 0x80 + c / 4096 % 64 ≡ x = ap (λ (n : ℕ). 0x80 + n % 64) a₂ ∙ mod64 code x xl xh in
    let w : 0x80 + c / 64 % 64 ≡ y = ap (λ (n : ℕ). 0x80 + n % 64) a₁ ∙ mod64 v y r₂.3 r₂.4 in
    let t : 0x80 + c % 64 ≡ z = ap (λ (n : ℕ). 0x80 + n % 64) (sym d) ∙ mod64 u z r₃.3 r₃.4 in
    let g = ok x r.3 r.4 in
    let m = span v y z c d g.0 g.1 r₂.4 r₃.4 in
    (inr (lower c m.0, m.1), rw (r.2, r₂.2, r₃.2, bytes_4 c m.0, p, q, w, t))
  where
    span : (v y z c : ℕ) → (v * 64 + (y - 0x80)) * 64 + (z - 0x80) ≡ c → 0x10 ≤ v → v < 0x110 → y ≤ 0xBF → z ≤ 0xBF → (0x10000 ≤ c) × (c < 0x110000)
    span v y z c d h k i j = omega arith

    lower : (c : ℕ) → 0x10000 ≤ c → 0xE000 ≤ c
    lower c h = omega arith

sound_lead : (b : ℕ) → Sound b (lead_of b)
unfolding lead_of
sound_lead b =
    cond_both (Sound b) (ltb b 0x80) _ _ (λ t. sound_1 b (ltb-true b 0x80 t))
    λ _. cond_both (Sound b) (ltb b 0xC2) _ _ (λ t. tt)
    λ l. cond_both (Sound b) (ltb b 0xE0) _ _ (λ t. sound_2 b (ltb-false b 0xC2 l) (ltb-true b 0xE0 t))
    λ l. cond_both (Sound b) (ltb b 0xE1) _ _ (λ t. sound_3 b 0xA0 0xBF 0 (omega (arith, ltb-false b 0xE0 l, ltb-true b 0xE1 t)) (omega arith) (omega arith) (omega arith) (λ x h k. (omega arith, inl (omega arith))))
    λ l. cond_both (Sound b) (ltb b 0xED) _ _ (λ t. sound_3 b 0x80 0xBF (b - 0xE0) (omega (arith, ltb-false b 0xE1 l)) (omega (arith, ltb-true b 0xED t)) (omega arith) (omega arith) (λ x h k. (omega (arith, ltb-false b 0xE1 l), inl (omega (arith, ltb-true b 0xED t)))))
    λ l. cond_both (Sound b) (ltb b 0xEE) _ _ (λ t. sound_3 b 0x80 0x9F 13 (omega (arith, ltb-false b 0xED l, ltb-true b 0xEE t)) (omega arith) (omega arith) (omega arith) (λ x h k. (omega arith, inl (omega arith))))
    λ l. cond_both (Sound b) (ltb b 0xF0) _ _ (λ t. sound_3 b 0x80 0xBF (b - 0xE0) (omega (arith, ltb-false b 0xEE l)) (omega (arith, ltb-true b 0xF0 t)) (omega arith) (omega arith) (λ x h k. (omega (arith, ltb-false b 0xEE l), inr (omega (arith, ltb-false b 0xEE l)))))
    λ l. cond_both (Sound b) (ltb b 0xF1) _ _ (λ t. sound_4 b 0x90 0xBF 0 (omega (arith, ltb-false b 0xF0 l, ltb-true b 0xF1 t)) (omega arith) (omega arith) (λ x h k. (omega arith, omega arith)))
    λ l. cond_both (Sound b) (ltb b 0xF4) _ _ (λ t. sound_4 b 0x80 0xBF (b - 0xF0) (omega (arith, ltb-false b 0xF1 l)) (omega arith) (omega arith) (λ x h k. (omega (arith, ltb-false b 0xF1 l), omega (arith, ltb-true b 0xF4 t))))
    λ l. cond_both (Sound b) (ltb b 0xF5) _ _ (λ t. sound_4 b 0x80 0x8F 4 (omega (arith, ltb-false b 0xF4 l, ltb-true b 0xF5 t)) (omega arith) (omega arith) (λ x h k. (omega arith, omega arith))) (λ t. tt)

pub step_sound : (s : List ℕ) (c w : ℕ) → step_of s ≡ Char c w → Scalar c × (encode_char c ++ drop w s ≡ s)
step_sound [] c w e = let z : ◌≡◌ {A = ℕ} 0 1 = cc in absurd (omega arith)
step_sound (b ∷ s) c w e = lead (lead_of b) (sound_lead b) e
  where
    done : (more low high code : ℕ) → Sound b (Some (more, low, high, code)) → (o : Option ℕ) → code_of more low high code s ≡ o → char_of more o ≡ Char c w → Scalar c × (encode_char c ++ drop w (b ∷ s) ≡ b ∷ s)
    done more low high code f None h e = let z : ◌≡◌ {A = ℕ} 0 1 = cc in absurd (omega arith)
    done more low high code f (Some x) h e =
        let u : x ≡ c = cc in
        let v : suc more ≡ w = sym (add-one more) ∙ cc in
        rw (← v) (f s c (h ∙ ap Some u))

    lead : (l : Lead) → Sound b l → with_lead l s ≡ Char c w → Scalar c × (encode_char c ++ drop w (b ∷ s) ≡ b ∷ s)
    lead None f e = let z : ◌≡◌ {A = ℕ} 0 1 = cc in absurd (omega arith)
    lead (Some (more, low, high, code)) f e = done more low high code f (code_of more low high code s) refl e

at_nil : (s : List ℕ) → s ≡ [] → Scalars (decode s) × (encode (decode s) ≡ s)
at_nil s e = rw (e, decode_nil) (tt, refl)

no_bytes : (s : List ℕ) → length s ≤ 0 → s ≡ []
no_bytes [] h = refl
no_bytes (b ∷ s) h = absurd (omega arith)

sound_within : (n : ℕ) (s : List ℕ) → length s ≤ n → is_utf8 s ≡ true → Scalars (decode s) × (encode (decode s) ≡ s)
sound_within zero s l h = at_nil s (no_bytes s l)
sound_within (suc n) s l h = go (step_of s) refl (λ t k u. sound_within n t k u)
  where
    go : (o : Step) → step_of s ≡ o → ((t : List ℕ) → length t ≤ n → is_utf8 t ≡ true → Scalars (decode t) × (encode (decode t) ≡ t)) → Scalars (decode s) × (encode (decode s) ≡ s)
    go (Char c w) e ih =
        let d = step_char s c w e in
        let r = ih (drop w s) (omega (arith, length-drop w s, d.2)) (sym d.0 ∙ h) in
        let f = step_sound s c w e in
        rw d.1 ((f.0, r.0), ap (λ (x : List ℕ). encode_char c ++ x) r.1 ∙ f.1)
    go Bad e ih = let g = sym (step_bad s e) ∙ h in let z : ◌≡◌ {A = ℕ} 0 1 = cc in absurd (omega arith)
    go End e ih = at_nil s (step_end s e)

-- UTF-8 is the encoding of the scalar values that are read
pub utf8_sound : (s : List ℕ) → is_utf8 s ≡ true → Scalars (decode s) × (encode (decode s) ≡ s)
utf8_sound s h = sound_within (length s) s (omega arith) h
