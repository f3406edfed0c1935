-- Laws of UTF-8 text: a step, a joined text, an ASCII byte. Assumes nothing.
use Prim.Native.Nat.{ℕ, zero, suc, ◌+◌, ◌-◌, ◌*◌, ◌≤◌, ◌<◌, zero-le, suc-le-suc}
use mathlib.Core.Path.{◌≡◌, refl, sym, ap, ◌∙◌}
use mathlib.Core.Bool.{Bool, true, false, cond}
use mathlib.Core.List.{List, [], ◌∷◌, ◌++◌, append_assoc}
use Rattle.std.specs.Prelude.{Option, Some, None}
use native.Mathlib.Numerals.{add-one}
use native.Mathlib.Omega.{arith}
use lib.ListN.{length, get_or, drop, length-drop}
use lib.Seq.{drop-cons, drop-drop}
use lib.Dec.{ltb}
use borrow.Author.Tests.{ltb-true}
use Rattle.laws.specs.Tests.{cond_both}
use Rattle.utf8.specs.Utf8.{Lead, lead_of, within, code_of, char_of, with_lead, step_of, step_at, Place, between, inside, wrong, due, after, next, run, is_between, is_utf8, codes1, lead_codes, emit, decode_from, decode, char_count}
use Rattle.utf8.specs.declared.Step.TheVariants.{Char, Bad, End}
use Rattle.utf8.proofs.Walk.{Cap}

-- a row of the table: its second byte is a continuation, and its code is small
abbrev pub Small : Lead → Type 0
Small None = Unit {0}
Small (Some (more, low, high, code)) = (0x80 ≤ low) × (high ≤ 0xBF) × Cap code more × (more ≤ 3)

pub lead_small : (b : ℕ) → Small (lead_of b)
unfolding lead_of
lead_small b =
    cond_both Small (ltb b 0x80) _ _ (λ t. omega (arith, ltb-true b 0x80 t))
    λ _. cond_both Small (ltb b 0xC2) _ _ (λ t. tt)
    λ _. cond_both Small (ltb b 0xE0) _ _ (λ t. omega (arith, ltb-true b 0xE0 t))
    λ _. cond_both Small (ltb b 0xE1) _ _ (λ t. omega arith)
    λ _. cond_both Small (ltb b 0xED) _ _ (λ t. omega (arith, ltb-true b 0xED t))
    λ _. cond_both Small (ltb b 0xEE) _ _ (λ t. omega arith)
    λ _. cond_both Small (ltb b 0xF0) _ _ (λ t. omega (arith, ltb-true b 0xF0 t))
    λ _. cond_both Small (ltb b 0xF1) _ _ (λ t. omega arith)
    λ _. cond_both Small (ltb b 0xF4) _ _ (λ t. omega (arith, ltb-true b 0xF4 t))
    λ _. cond_both Small (ltb b 0xF5) _ _ (λ t. omega arith) (λ t. tt)

pub step_lead : (s : List ℕ) (at : ℕ) → at < length s → step_at s at ≡ with_lead (lead_of (get_or s at 0)) (drop (at + 1) s)
step_lead s at h = rw (drop-cons s at 0 h, add-one)

-- what a complete character leaves
abbrev pub Done : (more : ℕ) → Place → List ℕ → List ℕ → ℕ → Type 0
Done more p before s c = (run p s ≡ run between (drop more s)) × (before ++ decode_from p s ≡ c ∷ decode_from between (drop more s)) × (more ≤ length s)

code_some : (more low high code : ℕ) (s : List ℕ) (c : ℕ) → code_of more low high code s ≡ Some c → Done more (due more low high code) (codes1 more code) s c
code_some zero low high code s c e =
    let d : code ≡ c = cc in
    (refl, ap (λ (x : ℕ). x ∷ decode_from between s) d, zero-le)
code_some (suc k) low high code [] c e = let z : ◌≡◌ {A = ℕ} 0 1 = cc in absurd (omega arith)
code_some (suc k) low high code (b ∷ s) c e = go (within low high b) e (code_some k 0x80 0xBF (code * 64 + (b - 0x80)) s c)
  where
    go : (t : Bool) → cond t (code_of k 0x80 0xBF (code * 64 + (b - 0x80)) s) None ≡ Some c → (code_of k 0x80 0xBF (code * 64 + (b - 0x80)) s ≡ Some c → Done k (due k 0x80 0xBF (code * 64 + (b - 0x80))) (codes1 k (code * 64 + (b - 0x80))) s c) → (run (cond t (due k 0x80 0xBF (code * 64 + (b - 0x80))) wrong) s ≡ run between (drop k s)) × (cond t (codes1 k (code * 64 + (b - 0x80))) [] ++ decode_from (cond t (due k 0x80 0xBF (code * 64 + (b - 0x80))) wrong) s ≡ c ∷ decode_from between (drop k s)) × (suc k ≤ suc (length s))
    go true e f = let d = f e in (d.0, d.1, suc-le-suc d.2)
    go false e f = let z : ◌≡◌ {A = ℕ} 0 1 = cc in absurd (omega arith)

pub run_wrong : (s : List ℕ) → run wrong s ≡ wrong
run_wrong [] = refl
run_wrong (b ∷ s) = run_wrong s

pub decode_wrong : (s : List ℕ) → decode_from wrong s ≡ []
decode_wrong [] = refl
decode_wrong (b ∷ s) = decode_wrong s

-- what an incomplete character leaves: an error, and no code
abbrev Broken : Place → List ℕ → List ℕ → Type 0
Broken p before s = (is_between (run p s) ≡ false) × (before ++ decode_from p s ≡ [])

broken : (s : List ℕ) → Broken wrong [] s
broken s = (ap is_between (run_wrong s), decode_wrong s)

code_none : (more low high code : ℕ) (s : List ℕ) → code_of more low high code s ≡ None → Broken (due more low high code) (codes1 more code) s
code_none zero low high code s e = let z : ◌≡◌ {A = ℕ} 0 1 = cc in absurd (omega arith)
code_none (suc k) low high code [] e = (refl, refl)
code_none (suc k) low high code (b ∷ s) e = go (within low high b) e (code_none k 0x80 0xBF (code * 64 + (b - 0x80)) s)
  where
    go : (t : Bool) → cond t (code_of k 0x80 0xBF (code * 64 + (b - 0x80)) s) None ≡ None → (code_of k 0x80 0xBF (code * 64 + (b - 0x80)) s ≡ None → Broken (due k 0x80 0xBF (code * 64 + (b - 0x80))) (codes1 k (code * 64 + (b - 0x80))) s) → Broken (cond t (due k 0x80 0xBF (code * 64 + (b - 0x80))) wrong) (cond t (codes1 k (code * 64 + (b - 0x80))) []) s
    go true e f = f e
    go false e f = broken s

-- the character at the front, and the text after it
pub step_char : (s : List ℕ) (c w : ℕ) → step_of s ≡ Char c w → (is_utf8 s ≡ is_utf8 (drop w s)) × (decode s ≡ c ∷ decode (drop w s)) × (1 ≤ w) × (w ≤ length s)
unfolding is_utf8 decode
step_char [] c w e = let z : ◌≡◌ {A = ℕ} 0 1 = cc in absurd (omega arith)
step_char (a ∷ s) c w e = lead (lead_of a) e
  where
    Goal : Place → List ℕ → Type 0
    Goal p l = (is_between (run p s) ≡ is_between (run between (drop w (a ∷ s)))) × (l ++ decode_from p s ≡ c ∷ decode_from between (drop w (a ∷ s))) × (1 ≤ w) × (w ≤ suc (length s))

    done : (more low high code : ℕ) (o : Option ℕ) → code_of more low high code s ≡ o → char_of more o ≡ Char c w → Goal (due more low high code) (codes1 more code)
    done more low high code None h e = let z : ◌≡◌ {A = ℕ} 0 1 = cc in absurd (omega arith)
    done more low high code (Some x) h e =
        let u : x ≡ c = cc in
        let v : suc more ≡ w = sym (add-one more) ∙ cc in
        let d = code_some more low high code s c (h ∙ ap Some u) in
        rw (← v) (ap is_between d.0, d.1, omega arith, suc-le-suc d.2)

    lead : (l : Lead) → with_lead l s ≡ Char c w → Goal (after l) (lead_codes l)
    lead None e = let z : ◌≡◌ {A = ℕ} 0 1 = cc in absurd (omega arith)
    lead (Some (more, low, high, code)) e = done more low high code (code_of more low high code s) refl e

-- no character at the front: not UTF-8, and nothing is read
bad : (s : List ℕ) → step_of s ≡ Bad → (is_utf8 s ≡ false) × (decode s ≡ [])
unfolding is_utf8 decode
bad [] e = let z : ◌≡◌ {A = ℕ} 0 1 = cc in absurd (omega arith)
bad (a ∷ s) e = lead (lead_of a) e
  where
    done : (more low high code : ℕ) (o : Option ℕ) → code_of more low high code s ≡ o → char_of more o ≡ Bad → Broken (due more low high code) (codes1 more code) s
    done more low high code None h e = code_none more low high code s h
    done more low high code (Some x) h e = let z : ◌≡◌ {A = ℕ} 0 1 = cc in absurd (omega arith)

    lead : (l : Lead) → with_lead l s ≡ Bad → Broken (after l) (lead_codes l) s
    lead None e = broken s
    lead (Some (more, low, high, code)) e = done more low high code (code_of more low high code s) refl e

pub step_bad : (s : List ℕ) → step_of s ≡ Bad → is_utf8 s ≡ false
step_bad s e = (bad s e).0

pub decode_bad : (s : List ℕ) → step_of s ≡ Bad → decode s ≡ []
decode_bad s e = (bad s e).1

-- nothing at the front: nothing at all
pub step_end : (s : List ℕ) → step_of s ≡ End → s ≡ []
step_end [] e = refl
step_end (a ∷ s) e = lead (lead_of a) e
  where
    done : (more : ℕ) (o : Option ℕ) → char_of more o ≡ End → a ∷ s ≡ []
    done more None e = let z : ◌≡◌ {A = ℕ} 0 1 = cc in absurd (omega arith)
    done more (Some x) e = let z : ◌≡◌ {A = ℕ} 0 1 = cc in absurd (omega arith)

    lead : (l : Lead) → with_lead l s ≡ End → a ∷ s ≡ []
    lead None e = let z : ◌≡◌ {A = ℕ} 0 1 = cc in absurd (omega arith)
    lead (Some (more, low, high, code)) e = done more (code_of more low high code s) e

-- joined text
pub run_append : (p : Place) (a b : List ℕ) → run p (a ++ b) ≡ run (run p a) b
run_append p [] b = refl
run_append p (x ∷ a) b = run_append (next p x) a b

pub decode-run : (p : Place) (a b : List ℕ) → decode_from p (a ++ b) ≡ decode_from p a ++ decode_from (run p a) b
decode-run p [] b = refl
decode-run p (x ∷ a) b = ap (λ (l : List ℕ). emit p x ++ l) (decode-run (next p x) a b) ∙ sym (append_assoc (emit p x) (decode_from (next p x) a) (decode_from (run (next p x) a) b))

is_between_lem : (p : Place) → is_between p ≡ true → p ≡ between
is_between_lem between e = refl
is_between_lem (inside k low high code) e = let z : ◌≡◌ {A = ℕ} 0 1 = cc in absurd (omega arith)
is_between_lem wrong e = let z : ◌≡◌ {A = ℕ} 0 1 = cc in absurd (omega arith)

pub utf8_append : (a b : List ℕ) → is_utf8 a ≡ true → is_utf8 (a ++ b) ≡ is_utf8 b
unfolding is_utf8
utf8_append a b h = ap is_between (run_append between a b ∙ ap (λ (p : Place). run p b) (is_between_lem (run between a) h))

pub decode_append : (a b : List ℕ) → is_utf8 a ≡ true → decode (a ++ b) ≡ decode a ++ decode b
unfolding is_utf8 decode
decode_append a b h = decode-run between a b ∙ ap (λ (p : Place). decode_from between a ++ decode_from p b) (is_between_lem (run between a) h)

pub utf8_nil : is_utf8 [] ≡ true
unfolding is_utf8
utf8_nil = refl

pub count_nil : char_count [] ≡ 0
unfolding char_count decode
count_nil = refl

pub count_bad : (s : List ℕ) → step_of s ≡ Bad → char_count s ≡ 0
unfolding char_count
count_bad s e = ap length (decode_bad s e)

-- a character at a place of a text
pub char_at : (s : List ℕ) (at c w : ℕ) → step_at s at ≡ Char c w → (is_utf8 (drop at s) ≡ is_utf8 (drop (at + w) s)) × (char_count (drop at s) ≡ char_count (drop (at + w) s) + 1) × (1 ≤ w) × (at + w ≤ length s)
unfolding char_count
char_at s at c w e =
    let d = step_char (drop at s) c w e in (
      rw drop-drop at d.0,
      rw drop-drop at (ap length d.1) ∙ sym (add-one (length (decode (drop (at + w) s)))),
      d.2,
      omega (arith, d.2, d.3, length-drop at s),
    )

pub decode-at : (s : List ℕ) (at c w : ℕ) → step_at s at ≡ Char c w → decode (drop at s) ≡ c ∷ decode (drop (at + w) s)
decode-at s at c w e = rw drop-drop at (step_char (drop at s) c w e).1

pub decode_nil : decode [] ≡ []
unfolding decode
decode_nil = refl
