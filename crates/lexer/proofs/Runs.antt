-- Runs of characters, and where they end. Assumes nothing.
use Prim.Native.Nat.{ℕ, zero, suc, ◌+◌, ◌-◌, ◌/◌, ◌%◌, ◌≤◌, ◌<◌}
use mathlib.Core.Path.{◌≡◌, refl, sym, ap, ◌∙◌}
use mathlib.Core.Bool.{Bool, true, false, not}
use mathlib.Core.List.{List, [], ◌∷◌, ◌++◌}
use native.Mathlib.Omega.{arith}
use native.Mathlib.Numerals.{add-one}
use lib.Dec.{eqb, ltb}
use lib.ListN.{length, take, drop, get_or, replicate, length-drop, drop_of_length-le}
use lib.Seq.{drop-cons, drop-drop}
use borrow.Author.Tests.{eq-eqb, ne_eqb, eqb-true, eqb-false, ltb-true, ltb-false}
use Rattle.laws.specs.Tests.{agree, cond_both}
use Rattle.utf8.specs.Utf8.{decode, encode, encode_char, step_at}
use Rattle.utf8.specs.White.{is_white}
use Rattle.utf8.specs.declared.Step.TheVariants.{Char, Bad}
use Rattle.utf8.proofs.Laws.{decode-at, decode_bad}
use Rattle.utf8.proofs.Ascii.{ascii-at}
use Rattle.utf8.proofs.White.{white_visible}
use Rattle.grammar.specs.Lex.{blank_char}
use Rattle.grammar.specs.Citable.{holds}
use Rattle.lexer.specs.Runs.{leading, trailing, run_end, up_to, from_on}
use Rattle.lexer.proofs.Split.{char_size, size_cons, step_width, none_left}

-- the two parts are the whole
pub lead_trail : (w : Bool) (cs : List ℕ) → cs ≡ leading w cs ++ trailing w cs
unfolding leading trailing
lead_trail w [] = refl
lead_trail w (c ∷ cs) = go (agree (is_white c) w) refl (lead_trail w cs)
  where
    go : (b : Bool) → agree (is_white c) w ≡ b → cs ≡ leading w cs ++ trailing w cs → c ∷ cs ≡ leading w (c ∷ cs) ++ trailing w (c ∷ cs)
    go true e h = rw e (ap (λ (x : List ℕ). c ∷ x) h)
    go false e h = rw e

-- a run goes as far as it can
pub trail_stop : (w : Bool) (cs : List ℕ) → leading w (trailing w cs) ≡ []
unfolding leading trailing
trail_stop w [] = refl
trail_stop w (c ∷ cs) = go (agree (is_white c) w) refl (trail_stop w cs)
  where
    go : (b : Bool) → agree (is_white c) w ≡ b → leading w (trailing w cs) ≡ [] → leading w (trailing w (c ∷ cs)) ≡ []
    go true e h = rw e h
    go false e h = rw (e, e)

other : (a b : Bool) → agree a b ≡ false → agree a (not b) ≡ true
other true false h = refl
other false true h = refl
other true true h = sym h
other false false h = sym h

-- where one run cannot begin, the other does
pub run_starts : (w : Bool) (cs : List ℕ) → leading w cs ≡ [] → (cs ≡ [] → ⊥) → 1 ≤ length (encode (leading (not w) cs))
unfolding leading
run_starts w [] h k = absurd (k refl)
run_starts w (c ∷ cs) h k = go (agree (is_white c) w) refl
  where
    go : (b : Bool) → agree (is_white c) w ≡ b → 1 ≤ length (encode (leading (not w) (c ∷ cs)))
    go true e = let z = ap length (rw e at h) in absurd (omega (arith, z))
    go false e = rw (other (is_white c) w e) (omega (arith, size_cons c (leading (not w) cs), char_size c))

lead_on : (w : Bool) (c : ℕ) (cs : List ℕ) → agree (is_white c) w ≡ true → leading w (c ∷ cs) ≡ c ∷ leading w cs
unfolding leading
lead_on w c cs e = rw e

lead_off : (w : Bool) (c : ℕ) (cs : List ℕ) → agree (is_white c) w ≡ false → leading w (c ∷ cs) ≡ []
unfolding leading
lead_off w c cs e = rw e

lead_none : (w : Bool) → leading w [] ≡ []
unfolding leading
lead_none w = refl

-- the run from `i` on, by what stands there
module _ (w : Bool) (s : List ℕ) (i : ℕ) where
  pub run_on : (c k : ℕ) → step_at s i ≡ Char c k → agree (is_white c) w ≡ true → run_end w s (i + k) ≡ run_end w s i
  run_on c k e t =
      let n : length (encode (leading w (decode (drop i s)))) ≡ length (encode_char c) + length (encode (leading w (decode (drop (i + k) s)))) =
      ap (λ (x : List ℕ). length (encode (leading w x))) (decode-at s i c k e)
      ∙ ap (λ (x : List ℕ). length (encode x)) (lead_on w c (decode (drop (i + k) s)) t)
      ∙ size_cons c (leading w (decode (drop (i + k) s))) in
      omega (arith, n, step_width s i c k e)

  none : decode (drop i s) ≡ [] → i ≡ run_end w s i
  none e = omega (arith, ap (λ (x : List ℕ). length (encode (leading w x))) e, ap (λ (x : List ℕ). length (encode x)) (lead_none w))

  pub run_off : (c k : ℕ) → step_at s i ≡ Char c k → agree (is_white c) w ≡ false → i ≡ run_end w s i
  run_off c k e t =
      let n = ap (λ (x : List ℕ). length (encode (leading w x))) (decode-at s i c k e) in
      omega (arith, n, ap (λ (x : List ℕ). length (encode x)) (lead_off w c (decode (drop (i + k) s)) t))

  pub run_bad : step_at s i ≡ Bad → i ≡ run_end w s i
  run_bad e = none (decode_bad (drop i s) e)

  pub run_out : length s ≤ i → i ≡ run_end w s i
  run_out h = none (none_left s i h)

  -- a run that is not empty begins before the end
  pub run_within : i < run_end w s i → i < length s
  run_within h = go (ltb i (length s)) refl
    where
      go : (b : Bool) → ltb i (length s) ≡ b → i < length s
      go true e = ltb-true i (length s) e
      go false e = absurd (omega (arith, h, run_out (ltb-false i (length s) e)))

-- the run from `i` on, by an ASCII byte there
module _ (s : List ℕ) (i : ℕ) (h : i < length s) where
  pub space_on : get_or s i 0 ≡ blank_char → run_end true s (i + 1) ≡ run_end true s i
  unfolding is_white
  space_on e = run_on true s i (get_or s i 0) 1 (ascii-at s i h (omega arith)) (ap (λ (x : ℕ). agree (is_white x) true) e)

  pub space_off : get_or s i 0 ≡ blank_char → i ≡ run_end false s i
  unfolding is_white
  space_off e = run_off false s i (get_or s i 0) 1 (ascii-at s i h (omega arith)) (ap (λ (x : ℕ). agree (is_white x) false) e)

  pub visible_on : 0x20 < get_or s i 0 → get_or s i 0 < 0x80 → run_end false s (i + 1) ≡ run_end false s i
  visible_on l m = run_on false s i (get_or s i 0) 1 (ascii-at s i h m) (ap (λ (x : Bool). agree x false) (white_visible (get_or s i 0) l m))

  pub visible_off : 0x20 < get_or s i 0 → get_or s i 0 < 0x80 → i ≡ run_end true s i
  visible_off l m = run_off true s i (get_or s i 0) 1 (ascii-at s i h m) (ap (λ (x : Bool). agree x true) (white_visible (get_or s i 0) l m))

-- spaces one after another
spaces_on : (s : List ℕ) (n i : ℕ) → i + n ≤ length s → take n (drop i s) ≡ replicate n blank_char → run_end true s (i + n) ≡ run_end true s i
spaces_on s zero i h e = ap (run_end true s) (omega arith)
spaces_on s (suc n) i h e =
    let l : i < length s = omega arith in
    let c : get_or s i 0 ∷ take n (drop (suc i) s) ≡ blank_char ∷ replicate n blank_char = sym (ap (take (suc n)) (drop-cons s i 0 l)) ∙ e in
    let g : get_or s i 0 ≡ blank_char = cc in
    let t : take n (drop (suc i) s) ≡ replicate n blank_char = cc in
    let a : i + suc n ≡ suc i + n = omega arith in
    ap (run_end true s) a ∙ spaces_on s n (suc i) (omega arith) t ∙ ap (run_end true s) (sym (add-one i)) ∙ space_on s i l g

-- what is left of a text after spaces from `at` on
pub record Past (s : List ℕ) (at : ℕ) (rest : List ℕ) : Type 0 where
  pub place : ℕ
  pub room : place ≤ length s
  pub is : rest ≡ drop place s
  pub same : run_end true s place ≡ run_end true s at

-- n spaces more
pub past_more : (s : List ℕ) (at : ℕ) (rest : List ℕ) → Past s at rest → (n : ℕ) → n ≤ length rest → take n rest ≡ replicate n blank_char → Past s at (drop n rest)
past_more s at rest p n h e =
    let l : length rest ≡ length s - p.place = ap length p.is ∙ length-drop p.place s in
    record {
      place = p.place + n;
      room = omega (arith, p.room);
      is = ap (drop n) p.is ∙ drop-drop n p.place s;
      same = spaces_on s n p.place (omega (arith, p.room)) (sym (ap (take n) p.is) ∙ e) ∙ p.same;
    }

-- the two parts are the whole
pub upto_from : (x : ℕ) (cs : List ℕ) → cs ≡ up_to x cs ++ from_on x cs
unfolding up_to from_on
upto_from x [] = refl
upto_from x (c ∷ cs) = go (eqb c x) refl (upto_from x cs)
  where
    go : (b : Bool) → eqb c x ≡ b → cs ≡ up_to x cs ++ from_on x cs → c ∷ cs ≡ up_to x (c ∷ cs) ++ from_on x (c ∷ cs)
    go true e h = rw e
    go false e h = rw e (ap (λ (l : List ℕ). c ∷ l) h)

pub upto_free : (x : ℕ) (cs : List ℕ) → holds x (up_to x cs) ≡ false
unfolding up_to holds
upto_free x [] = refl
upto_free x (c ∷ cs) = go (eqb c x) refl (upto_free x cs)
  where
    go : (b : Bool) → eqb c x ≡ b → holds x (up_to x cs) ≡ false → holds x (up_to x (c ∷ cs)) ≡ false
    go true e h = rw e
    go false e h = rw (e, e) h

-- what is left begins with x
pub from_head : (x : ℕ) (cs : List ℕ) → (from_on x cs ≡ [] → ⊥) → from_on x cs ≡ x ∷ drop 1 (from_on x cs)
unfolding from_on
from_head x [] k = absurd (k refl)
from_head x (c ∷ cs) k = go (eqb c x) refl (from_head x cs)
  where
    go : (b : Bool) → eqb c x ≡ b → ((from_on x cs ≡ [] → ⊥) → from_on x cs ≡ x ∷ drop 1 (from_on x cs)) → from_on x (c ∷ cs) ≡ x ∷ drop 1 (from_on x (c ∷ cs))
    go true e h = rw e (ap (λ (y : ℕ). y ∷ cs) (eqb-true c x e))
    go false e h = rw e (h (λ q. k (rw e q)))

upto_skip : (x b : ℕ) (l : List ℕ) → (b ≡ x → ⊥) → up_to x (b ∷ l) ≡ b ∷ up_to x l
unfolding up_to
upto_skip x b l n = rw (ne_eqb b x n)

upto_here : (x b : ℕ) (l : List ℕ) → b ≡ x → up_to x (b ∷ l) ≡ []
unfolding up_to
upto_here x b l e = rw (eq-eqb b x e)

-- the bytes b in front have no x
Skips : ℕ → List ℕ → List ℕ → Type 0
Skips x l b = up_to x (b ++ l) ≡ b ++ up_to x l

no_more : (x : ℕ) (l : List ℕ) → Skips x l []
unfolding Skips
no_more x l = refl

skips : (x : ℕ) (l : List ℕ) (b : ℕ) (bs : List ℕ) → x < b → Skips x l bs → Skips x l (b ∷ bs)
unfolding Skips
skips x l b bs k p = upto_skip x b (bs ++ l) (λ e. omega arith) ∙ ap (λ (y : List ℕ). b ∷ y) p

-- no byte of a longer character is below 80
upto_char : (x c : ℕ) (l : List ℕ) → x < 0x80 → (c ≡ x → ⊥) → up_to x (encode_char c ++ l) ≡ encode_char c ++ up_to x l
unfolding encode_char Skips
upto_char x c l h n =
    let P = Skips x l in
    let e₁ = 0x80 + c % 64 in
    let e₂ = 0x80 + c / 64 % 64 in
    let e₃ = 0x80 + c / 4096 % 64 in
    let p₁ : Skips x l (e₁ ∷ []) = skips x l e₁ [] (omega arith) (no_more x l) in
    let p₂ : Skips x l (e₂ ∷ e₁ ∷ []) = skips x l e₂ (e₁ ∷ []) (omega arith) p₁ in
    let p₃ : Skips x l (e₃ ∷ e₂ ∷ e₁ ∷ []) = skips x l e₃ (e₂ ∷ e₁ ∷ []) (omega arith) p₂ in
    cond_both P (ltb c 0x80) (c ∷ []) _ (λ _. upto_skip x c l n)
    λ _. cond_both P (ltb c 0x800) ((0xC0 + c / 64) ∷ e₁ ∷ []) _ (λ _. skips x l (0xC0 + c / 64) (e₁ ∷ []) (omega arith) p₁)
    λ _. cond_both P (ltb c 0x10000) ((0xE0 + c / 4096) ∷ e₂ ∷ e₁ ∷ []) _ (λ _. skips x l (0xE0 + c / 4096) (e₂ ∷ e₁ ∷ []) (omega arith) p₂)
    λ _. skips x l (0xF0 + c / 262144) (e₃ ∷ e₂ ∷ e₁ ∷ []) (omega arith) p₃

ascii_char : (x : ℕ) (l : List ℕ) → x < 0x80 → encode_char x ++ l ≡ x ∷ l
unfolding encode_char
ascii_char x l h = cond_both (λ (b : List ℕ). b ++ l ≡ x ∷ l) (ltb x 0x80) _ _ (λ _. refl) λ t. absurd (omega (arith, ltb-false x 0x80 t))

-- a byte below 80 stands where the character stands
pub upto_bytes : (x : ℕ) (cs : List ℕ) → x < 0x80 → up_to x (encode cs) ≡ encode (up_to x cs)
unfolding up_to
upto_bytes x [] h = refl
upto_bytes x (c ∷ cs) h = go (eqb c x) refl (upto_bytes x cs h)
  where
    go : (b : Bool) → eqb c x ≡ b → up_to x (encode cs) ≡ encode (up_to x cs) → up_to x (encode_char c ++ encode cs) ≡ encode (up_to x (c ∷ cs))
    go true e k =
        let q = eqb-true c x e in
        rw e (ap (λ (y : ℕ). up_to x (encode_char y ++ encode cs)) q ∙ ap (up_to x) (ascii_char x (encode cs) h) ∙ upto_here x x (encode cs) refl)
    go false e k = rw e (upto_char x c (encode cs) h (eqb-false c x e) ∙ ap (λ (y : List ℕ). encode_char c ++ y) k)

-- the search from `i` on, by the byte there
module _ (x : ℕ) (s : List ℕ) (i : ℕ) where
  pub find_on : i < length s → (get_or s i 0 ≡ x → ⊥) → i + 1 + length (up_to x (drop (i + 1) s)) ≡ i + length (up_to x (drop i s))
  find_on h n =
      let e : length (up_to x (drop i s)) ≡ suc (length (up_to x (drop (suc i) s))) =
      ap (λ (l : List ℕ). length (up_to x l)) (drop-cons s i 0 h) ∙ ap length (upto_skip x (get_or s i 0) (drop (suc i) s) n) in
      rw (add-one i) (omega (arith, e))

  pub find_here : i < length s → get_or s i 0 ≡ x → i ≡ i + length (up_to x (drop i s))
  find_here h e =
      omega (arith, ap (λ (l : List ℕ). length (up_to x l)) (drop-cons s i 0 h) ∙ ap length (upto_here x (get_or s i 0) (drop (suc i) s) e))

  pub find_out : length s ≤ i → i ≡ i + length (up_to x (drop i s))
  unfolding up_to
  find_out h = omega (arith, ap (λ (l : List ℕ). length (up_to x l)) (drop_of_length-le s h))
