-- What is encoded is read back. Assumes nothing.
use Rattle.std.specs.Prelude.{Some}
use Prim.Native.Nat.{ℕ, suc, ◌+◌, ◌-◌, ◌*◌, ◌/◌, ◌%◌, ◌≤◌, ◌<◌}
use mathlib.Core.Path.{◌≡◌, refl, ap, ◌∙◌}
use mathlib.Core.Bool.{true}
use mathlib.Core.List.{List, [], ◌∷◌, ◌++◌}
use mathlib.Core.Logic.{⊎_elim}
use native.Mathlib.Nat.{mod-eq_of_lt, div-add-mod', div-div-eq-div-mul}
use native.Mathlib.Omega.{arith}
use native.Mathlib.Decide.{dec_lt}
use lib.ListN.{length}
use lib.Seq.{drop-append_seam}
use borrow.Author.Tests.{lt-ltb, le-ltb}
use Rattle.utf8.specs.Utf8.{lead_of, code_of, step_of, is_utf8, decode, encode_char, encode, Scalar, Scalars}
use Rattle.utf8.specs.declared.Step.TheVariants.{Char}
use Rattle.utf8.proofs.Ranges.{inside_range}
use Rattle.utf8.proofs.Laws.{step_char, utf8_nil}
use Rattle.utf8.proofs.Rows.{row_00, row_C2, row_E0, row_E1, row_ED, row_EE, row_F0, row_F1, row_F4}

-- one byte more
code_cons : (k low high code x : ℕ) (s : List ℕ) → low ≤ x → x ≤ high → code_of (suc k) low high code (x ∷ s) ≡ code_of k 0x80 0xBF (code * 64 + (x - 0x80)) s
code_cons k low high code x s h i = rw (inside_range low high x h i)

-- a first byte and its row, and the bytes after it
two : (b low high code x c : ℕ) (s : List ℕ) → lead_of b ≡ Some (1, low, high, code) → low ≤ x → x ≤ high → code * 64 + (x - 0x80) ≡ c → step_of (b ∷ x ∷ s) ≡ Char c 2
two b low high code x c s e h i v = rw (e, code_cons 0 low high code x s h i, v)

three : (b low high code x y c : ℕ) (s : List ℕ) → lead_of b ≡ Some (2, low, high, code) → low ≤ x → x ≤ high → 0x80 ≤ y → y ≤ 0xBF → (code * 64 + (x - 0x80)) * 64 + (y - 0x80) ≡ c → step_of (b ∷ x ∷ y ∷ s) ≡ Char c 3
three b low high code x y c s e h i j k v =
    rw (e, code_cons 1 low high code x (y ∷ s) h i, code_cons 0 0x80 0xBF (code * 64 + (x - 0x80)) y s j k, v)

four : (b low high code x y z c : ℕ) (s : List ℕ) → lead_of b ≡ Some (3, low, high, code) → low ≤ x → x ≤ high → 0x80 ≤ y → y ≤ 0xBF → 0x80 ≤ z → z ≤ 0xBF → ((code * 64 + (x - 0x80)) * 64 + (y - 0x80)) * 64 + (z - 0x80) ≡ c → step_of (b ∷ x ∷ y ∷ z ∷ s) ≡ Char c 4
four b low high code x y z c s e h i j k l m v =
    rw (e, code_cons 2 low high code x (y ∷ z ∷ s) h i, code_cons 1 0x80 0xBF (code * 64 + (x - 0x80)) y (z ∷ s) j k, code_cons 0 0x80 0xBF ((code * 64 + (x - 0x80)) * 64 + (y - 0x80)) z s l m, v)

module _ (c : ℕ) (s : List ℕ) where
  Back : List ℕ → Type 0
  Back l = step_of (l ++ s) ≡ Char c (length l)

  -- 1 byte
  back_1 : c < 0x80 → Back (c ∷ [])
  unfolding Back
  back_1 h = rw (row_00 c h)

  back_2 : 0x80 ≤ c → c < 0x800 → Back ((0xC0 + c / 64) ∷ (0x80 + c % 64) ∷ [])
  unfolding Back
  back_2 h k = two (0xC0 + c / 64) 0x80 0xBF _ (0x80 + c % 64) c s (row_C2 (0xC0 + c / 64) (omega arith) (omega arith)) (omega arith) (omega arith) (omega arith)

  third : (low high code : ℕ) → lead_of (0xE0 + c / 4096) ≡ Some (2, low, high, code) → low ≤ 0x80 + c / 64 % 64 → 0x80 + c / 64 % 64 ≤ high → (code * 64 + (0x80 + c / 64 % 64 - 0x80)) * 64 + (0x80 + c % 64 - 0x80) ≡ c → Back ((0xE0 + c / 4096) ∷ (0x80 + c / 64 % 64) ∷ (0x80 + c % 64) ∷ [])
  unfolding Back
  third low high code e h i v = three (0xE0 + c / 4096) low high code (0x80 + c / 64 % 64) (0x80 + c % 64) c s e h i (omega arith) (omega arith) v

  back_3 : 0x800 ≤ c → c < 0x10000 → Scalar c → Back ((0xE0 + c / 4096) ∷ (0x80 + c / 64 % 64) ∷ (0x80 + c % 64) ∷ [])
  back_3 h k sc =
      elim (dec_lt c 0x1000) [
        | yes l ↦ third 0xA0 0xBF 0 (row_E0 (0xE0 + c / 4096) (omega arith) (omega arith)) (omega arith) (omega arith) (omega arith)
        | no l ↦ elim (dec_lt c 0xD000) [
          | yes m ↦ third 0x80 0xBF _ (row_E1 (0xE0 + c / 4096) (omega arith) (omega arith)) (omega arith) (omega arith) (omega arith)
          | no m ↦ elim (dec_lt c 0xE000) [
            | yes n ↦ third 0x80 0x9F 13 (row_ED (0xE0 + c / 4096) (omega arith) (omega arith)) (omega arith) (⊎_elim (λ q. omega arith) (λ q. omega arith) sc) (omega arith)
            | no n ↦ third 0x80 0xBF _ (row_EE (0xE0 + c / 4096) (omega arith) (omega arith)) (omega arith) (omega arith) (omega arith)
          ]
        ]
      ]

  fourth : (low high code : ℕ) → lead_of (0xF0 + c / 262144) ≡ Some (3, low, high, code) → low ≤ 0x80 + c / 4096 % 64 → 0x80 + c / 4096 % 64 ≤ high → ((code * 64 + (0x80 + c / 4096 % 64 - 0x80)) * 64 + (0x80 + c / 64 % 64 - 0x80)) * 64 + (0x80 + c % 64 - 0x80) ≡ c → Back ((0xF0 + c / 262144) ∷ (0x80 + c / 4096 % 64) ∷ (0x80 + c / 64 % 64) ∷ (0x80 + c % 64) ∷ [])
  unfolding Back
  fourth low high code e h i v = four (0xF0 + c / 262144) low high code (0x80 + c / 4096 % 64) (0x80 + c / 64 % 64) (0x80 + c % 64) c s e h i (omega arith) (omega arith) (omega arith) (omega arith) v

  back_4 : 0x10000 ≤ c → c < 0x110000 → Back ((0xF0 + c / 262144) ∷ (0x80 + c / 4096 % 64) ∷ (0x80 + c / 64 % 64) ∷ (0x80 + c % 64) ∷ [])
  back_4 h k =
      elim (dec_lt c 0x40000) [
        | yes l ↦ (let q : c / 4096 % 64 ≡ c / 4096 = mod-eq_of_lt (omega arith) in fourth 0x90 0xBF 0 (row_F0 (0xF0 + c / 262144) (omega arith) (omega arith)) (omega arith) (omega arith) (omega arith))
        | no l ↦ elim (dec_lt c 0x100000) [
          | yes m ↦ fourth 0x80 0xBF _ (row_F1 (0xF0 + c / 262144) (omega arith) (omega arith)) (omega arith) (omega arith) (omega (arith, div-add-mod' c 64, div-add-mod' (c / 64) 64, div-add-mod' (c / 4096) 64, div-div-eq-div-mul c 64 64, div-div-eq-div-mul c 4096 64))
          | no m ↦ (let d : c / 4096 / 64 ≡ 4 = omega arith in fourth 0x80 0x8F 4 (row_F4 (0xF0 + c / 262144) (omega arith) (omega arith)) (omega arith) (omega (arith, div-add-mod' (c / 4096) 64)) (omega arith))
        ]
      ]

  -- the code of a text's first bytes is the code that they are of
  pub step_bytes : Scalar c → step_of (encode_char c ++ s) ≡ Char c (length (encode_char c))
  unfolding encode_char Back
  step_bytes sc =
      elim (dec_lt c 0x80) [
        | yes l ↦ simp (lt-ltb c 0x80 l) (back_1 l)
        | no l ↦ elim (dec_lt c 0x800) [
          | yes m ↦ simp (le-ltb c 0x80 (omega arith), lt-ltb c 0x800 m) (back_2 (omega arith) m)
          | no m ↦ elim (dec_lt c 0x10000) [
            | yes n ↦ simp (le-ltb c 0x80 (omega arith), le-ltb c 0x800 (omega arith), lt-ltb c 0x10000 n) (back_3 (omega arith) n sc)
            | no n ↦ simp (le-ltb c 0x80 (omega arith), le-ltb c 0x800 (omega arith), le-ltb c 0x10000 (omega arith)) (back_4 (omega arith) (⊎_elim (λ q. omega arith) (λ q. q.1) sc))
          ]
        ]
      ]

pub encoded : (cs : List ℕ) → Scalars cs → (is_utf8 (encode cs) ≡ true) × (decode (encode cs) ≡ cs)
unfolding decode
encoded [] h = (utf8_nil, refl)
encoded (c ∷ cs) h =
    let r = encoded cs h.1 in
    let d = step_char (encode_char c ++ encode cs) c (length (encode_char c)) (step_bytes c (encode cs) h.0) in (
      d.0 ∙ ap is_utf8 (drop-append_seam (encode_char c) (encode cs)) ∙ r.0,
      d.1 ∙ ap (λ (l : List ℕ). c ∷ l) (ap decode (drop-append_seam (encode_char c) (encode cs)) ∙ r.1),
    )
