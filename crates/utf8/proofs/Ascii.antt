-- A byte below 80 never lies inside a character. Assumes nothing.
use Rattle.std.specs.Bool.{MatchBool}
use Rattle.std.specs.Str.{IsAscii, IsNotAscii}
use Rattle.std.specs.Prelude.{Some, None}
use Prim.Native.Nat.{ℕ, zero, suc, ◌+◌, ◌-◌, ◌*◌, ◌≤◌, ◌<◌}
use mathlib.Core.Path.{◌≡◌, refl, sym, ap, ◌∙◌, subst}
use mathlib.Core.Bool.{Bool, true, false, cond, ◌&&◌, and-false}
use mathlib.Core.List.{List, [], ◌∷◌, ◌++◌}
use native.Mathlib.Omega.{arith}
use native.Mathlib.Numerals.{add-one}
use lib.Dec.{ltb}
use lib.ListN.{length, get_or, drop, drop_of_length-le}
use lib.Seq.{drop-cons}
use borrow.Author.Tests.{ltb-true, lt-ltb, le-ltb}
use Rattle.laws.specs.Tests.{and_both, cond_both}
use Rattle.utf8.specs.Utf8.{Lead, lead_of, within, with_lead, step_of, step_at, all_ascii, Place, between, inside, wrong, due, after, next, run, is_between, is_utf8, lead_codes, decode_from, decode}
use Rattle.utf8.specs.declared.Step.TheVariants.{Char}
use Rattle.utf8.proofs.Laws.{Small, lead_small, run_wrong, run_append, utf8_nil}
use Rattle.utf8.proofs.Ranges.{below_range}
use Rattle.utf8.proofs.Rows.{row_00}

abbrev Low : Place → Type 0
Low between = Unit {0}
Low (inside k low high code) = 0x80 ≤ low
Low wrong = Unit {0}

due_low : (more low high code : ℕ) → 0x80 ≤ low → Low (due more low high code)
due_low zero low high code h = tt
due_low (suc k) low high code h = h

after_low : (l : Lead) → Small l → Low (after l)
after_low None h = tt
after_low (Some (more, low, high, code)) h = due_low more low high code h.0

next_low : (p : Place) (b : ℕ) → Low p → Low (next p b)
next_low between b h = after_low (lead_of b) (lead_small b)
next_low (inside k low high code) b h =
    cond_both Low (within low high b) (due k 0x80 0xBF (code * 64 + (b - 0x80))) wrong (λ t. due_low k 0x80 0xBF (code * 64 + (b - 0x80)) (omega arith)) (λ t. tt)
next_low wrong b h = tt

run_low : (p : Place) (s : List ℕ) → Low p → Low (run p s)
run_low p [] h = h
run_low p (b ∷ s) h = run_low (next p b) s (next_low p b h)

-- a byte below 80 is a character of its own
pub ascii_cons : (b : ℕ) (s : List ℕ) → b < 0x80 → (is_utf8 (b ∷ s) ≡ is_utf8 s) × (decode (b ∷ s) ≡ b ∷ decode s)
unfolding is_utf8 decode
ascii_cons b s h = (
  ap (λ (l : Lead). is_between (run (after l) s)) (row_00 b h),
  ap (λ (l : Lead). lead_codes l ++ decode_from (after l) s) (row_00 b h),
)

pub ascii_step : (b : ℕ) (s : List ℕ) → b < 0x80 → step_of (b ∷ s) ≡ Char b 1
ascii_step b s h = ap (λ (l : Lead). with_lead l s) (row_00 b h)

pub ascii-at : (s : List ℕ) (i : ℕ) → i < length s → get_or s i 0 < 0x80 → step_at s i ≡ Char (get_or s i 0) 1
ascii-at s i h l = ap step_of (drop-cons s i 0 h) ∙ ascii_step (get_or s i 0) (drop (suc i) s) l

-- bytes below 80 are UTF-8
pub ascii_utf8 : (s : List ℕ) → all_ascii s ≡ true → is_utf8 s ≡ true
ascii_utf8 [] h = utf8_nil
ascii_utf8 (b ∷ s) h =
    let q = and_both (ltb b 0x80) (all_ascii s) h in
    (ascii_cons b s (ltb-true b 0x80 q.0)).0 ∙ ascii_utf8 s q.1

-- a turn of a loop over all bytes: the byte at `i` joins those before it
pub ascii-next : (x : Bool) (s : List ℕ) (i : ℕ) → i < length s → (x && ltb (get_or s i 0) 0x80) && all_ascii (drop (i + 1) s) ≡ x && all_ascii (drop i s)
ascii-next true s i h = rw (drop-cons s i 0 h, add-one)
ascii-next false s i h = refl

pub ascii_end : (x : Bool) (s : List ℕ) (i : ℕ) → length s ≤ i → x ≡ x && all_ascii (drop i s)
ascii_end true s i h = rw (drop_of_length-le s h)
ascii_end false s i h = refl

-- what stands before it and after it is UTF-8
pub ascii_splits : (a : List ℕ) (b : ℕ) (s : List ℕ) → b < 0x80 → is_utf8 (a ++ b ∷ s) ≡ true → (is_utf8 a ≡ true) × (is_utf8 s ≡ true)
unfolding is_utf8
ascii_splits a b s h e = go (run between a) (run_low between a tt) (sym (ap is_between (run_append between a (b ∷ s))) ∙ e)
  where
    go : (p : Place) → Low p → is_between (run (next p b) s) ≡ true → (is_between p ≡ true) × (is_between (run between s) ≡ true)
    go between l e = (refl, subst (λ (x : Lead). is_between (run (after x) s) ≡ true) (row_00 b h) e)
    go (inside k low high code) l e =
        let f : is_between (run (cond false (due k 0x80 0xBF (code * 64 + (b - 0x80))) wrong) s) ≡ true = rw (below_range low high b (omega arith)) at e in
        let g : false ≡ true = sym (ap is_between (run_wrong s)) ∙ f in
        let z : ◌≡◌ {A = ℕ} 0 1 = cc in absurd (omega arith)
    go wrong l e =
        let g : false ≡ true = sym (ap is_between (run_wrong s)) ∙ e in
        let z : ◌≡◌ {A = ℕ} 0 1 = cc in absurd (omega arith)

-- std's test says the same
pub ascii_said : (r : Bool) (s : List ℕ) → MatchBool r (IsAscii s) (IsNotAscii s) → r ≡ all_ascii s
ascii_said true [] h = refl
ascii_said true (b ∷ s) h = rw (lt-ltb b 128 (h 0)) (ascii_said true s (λ i. h (suc i)))
ascii_said false [] (i, h) = absurd (omega arith)
ascii_said false (b ∷ s) (zero, h) = rw (le-ltb b 128 h) refl
ascii_said false (b ∷ s) (suc i, h) = rw (← ascii_said false s (i, h)) (sym (and-false (ltb b 128)))
