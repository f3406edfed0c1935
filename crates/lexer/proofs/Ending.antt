-- Where the text of a citation ends. Assumes nothing.
use Prim.Native.Nat.{ℕ, ◌+◌, ◌-◌, ◌≤◌, ◌<◌}
use mathlib.Core.Path.{◌≡◌, refl, sym, ap, ◌∙◌}
use mathlib.Core.Bool.{Bool, true, false, cond, ◌&&◌}
use mathlib.Core.List.{List, [], ◌∷◌, ◌++◌, append-nil, append_assoc}
use native.Mathlib.Omega.{arith}
use lib.ListN.{length, take, drop, length-drop}
use Rattle.refusal.specs.declared.Refusal.TheVariants.{Unterminated, EmptyCondition}
use Rattle.utf8.specs.Utf8.{is_utf8, decode, encode, encode_char}
use Rattle.utf8.specs.White.{is_white}
use Rattle.utf8.proofs.Sound.{utf8_sound}
use Rattle.grammar.specs.Lex.{cited, cite_end, blank}
use Rattle.grammar.specs.Citable.{holds}
use Rattle.grammar.proofs.Citable.{holds_none}
use Rattle.lexer.specs.Runs.{leading, run_end, up_to, from_on}
use Rattle.lexer.specs.Scan.{halt, meets, inner_scan, scan, scan_in}
use Rattle.lexer.specs.State.{Closing}
use Rattle.lexer.proofs.Split.{char_size, size_cons, encode_none, passed}
use Rattle.lexer.proofs.Runs.{upto_from, upto_free, from_head, upto_bytes}

end_black : is_white cite_end ≡ false
unfolding is_white
end_black = refl

-- white space up to a character that is none
lead_blank : (x : ℕ) (a b : List ℕ) → is_white x ≡ false → blank a ≡ true → leading true (a ++ (x ∷ b)) ≡ a
unfolding leading blank
lead_blank x [] b n h = rw n
lead_blank x (c ∷ a) b n h = go (is_white c) refl h (lead_blank x a b n)
  where
    go : (w : Bool) → is_white c ≡ w → (w && blank a) ≡ true → (blank a ≡ true → leading true (a ++ (x ∷ b)) ≡ a) → leading true (c ∷ (a ++ (x ∷ b))) ≡ c ∷ a
    go true e k i = rw e (ap (λ (l : List ℕ). c ∷ l) (i k))
    go false e k i = let z : ◌≡◌ {A = ℕ} 0 1 = cc in absurd (omega arith)

-- white space that ends earlier
lead_shorter : (a b : List ℕ) → blank a ≡ false → length (encode (leading true (a ++ b))) < length (encode a)
unfolding leading blank
lead_shorter [] b h = let z : ◌≡◌ {A = ℕ} 0 1 = cc in absurd (omega arith)
lead_shorter (c ∷ a) b h = go (is_white c) refl h (lead_shorter a b)
  where
    go : (w : Bool) → is_white c ≡ w → (w && blank a) ≡ false → (blank a ≡ false → length (encode (leading true (a ++ b))) < length (encode a)) → length (encode (leading true (c ∷ (a ++ b)))) < length (encode (c ∷ a))
    go true e k i = rw e (omega (arith, i k, size_cons c (leading true (a ++ b)), size_cons c a))
    go false e k i = rw e (omega (arith, size_cons c a, char_size c))

end_size : length (encode (cite_end ∷ [])) ≡ 1
unfolding encode_char
end_size = refl

inside_closed : (from : ℕ) (a r : List ℕ) → scan_in from a (cite_end ∷ r) ≡ cond (blank a) (halt EmptyCondition) (meets from (cited (encode a)) (scan (from + length (encode a) + 1) r))
unfolding scan inner_scan
inside_closed from a r = refl

-- a citation goes on to its `]`
inside_read : (from : ℕ) (t u cs : List ℕ) → holds cite_end u ≡ false → scan_in from t (u ++ (cite_end ∷ cs)) ≡ scan_in from (t ++ u) (cite_end ∷ cs)
unfolding scan inner_scan holds
inside_read from t [] cs h = rw append-nil
inside_read from t (c ∷ u) cs h =
    let r = holds_none cite_end c u h in rw r.0 (inside_read from (t ++ (c ∷ [])) u cs r.1 ∙ rw append_assoc)

-- a citation goes on to the end, if no `]` follows
inside_open : (from : ℕ) (t u : List ℕ) → holds cite_end u ≡ false → scan_in from t u ≡ halt Unterminated
unfolding scan inner_scan holds
inside_open from t [] h = refl
inside_open from t (c ∷ u) h = let r = holds_none cite_end c u h in rw r.0 (inside_open from (t ++ (c ∷ [])) u r.1)

-- the characters from `at` on, up to the first `]`, which stands at `end`, and from there on
record Found (s : List ℕ) (at end : ℕ) : Type 0 where
  pub text : List ℕ
  pub later : List ℕ
  pub split : decode (drop at s) ≡ text ++ later
  pub free : holds cite_end text ≡ false
  pub head : (later ≡ [] → ⊥) → later ≡ cite_end ∷ drop 1 later
  pub is : end ≡ at + length (encode text)

found : (s : List ℕ) (at end : ℕ) → is_utf8 (drop at s) ≡ true → end ≡ at + length (up_to cite_end (drop at s)) → Found s at end
found s at end u e =
    let cs = decode (drop at s) in
    record {
      text = up_to cite_end cs;
      later = from_on cite_end cs;
      split = upto_from cite_end cs;
      free = upto_free cite_end cs;
      head = from_head cite_end cs;
      is =
          e
          ∙ ap (λ (x : List ℕ). at + length (up_to cite_end x)) (sym (utf8_sound (drop at s) u).1)
          ∙ ap (λ (x : List ℕ). at + length x) (upto_bytes cite_end cs (omega arith));
    }

-- `end` is what `find_end` says of a text, from `at` on
module _ (s : List ℕ) (at end : ℕ) (h : at ≤ length s) (u : is_utf8 (drop at s) ≡ true) (e : end ≡ at + length (up_to cite_end (drop at s))) where
  left : (f : Found s at end) → length (encode f.later) ≡ length s - end
  left f =
      let p = passed s at f.text f.later h u f.split in
      omega (arith, ap length p.left, length-drop (at + length (encode f.text)) s, f.is)

  pub never_ends : length s ≤ end → scan_in at [] (decode (drop at s)) ≡ halt Unterminated
  never_ends l =
      let f = found s at end u e in
      let none : f.later ≡ [] = encode_none f.later (omega (arith, left f)) in
      ap (scan_in at []) (f.split ∙ ap (λ (x : List ℕ). f.text ++ x) none ∙ append-nil f.text) ∙ inside_open at [] f.text f.free

  module _ (l : end < length s) where
    closed : (f : Found s at end) → f.later ≡ cite_end ∷ drop 1 f.later
    closed f = f.head (λ q. omega (arith, left f, ap (λ (x : List ℕ). length (encode x)) q))

    goes : (f : Found s at end) → scan_in at [] (decode (drop at s)) ≡ cond (blank f.text) (halt EmptyCondition) (meets at (cited (encode f.text)) (scan (end + 1) (drop 1 f.later)))
    goes f =
        ap (scan_in at []) (f.split ∙ ap (λ (x : List ℕ). f.text ++ x) (closed f))
        ∙ inside_read at [] f.text (drop 1 f.later) f.free
        ∙ inside_closed at f.text (drop 1 f.later)
        ∙ ap (λ (n : ℕ). cond (blank f.text) (halt EmptyCondition) (meets at (cited (encode f.text)) (scan (n + 1) (drop 1 f.later)))) (sym f.is)

    white : (f : Found s at end) → leading true (decode (drop at s)) ≡ leading true (f.text ++ (cite_end ∷ drop 1 f.later))
    white f = ap (leading true) (f.split ∙ ap (λ (x : List ℕ). f.text ++ x) (closed f))

    pub ends-blank : end ≤ run_end true s at → scan_in at [] (decode (drop at s)) ≡ halt EmptyCondition
    ends-blank q =
        let f = found s at end u e in
        goes f ∙ ap (λ (x : Bool). cond x (halt EmptyCondition) (meets at (cited (encode f.text)) (scan (end + 1) (drop 1 f.later)))) (go f (blank f.text) refl)
      where
        go : (f : Found s at end) (x : Bool) → blank f.text ≡ x → blank f.text ≡ true
        go f true k = k
        go f false k =
            absurd (omega (arith, q, f.is, ap (λ (x : List ℕ). length (encode x)) (white f), lead_shorter f.text (cite_end ∷ drop 1 f.later) k))

    pub ends_cited : (run_end true s at ≡ end → ⊥) → Closing s at end
    ends_cited q =
        let f = found s at end u e in
        let p = passed s at f.text f.later h u f.split in
        let place : at + length (encode f.text) ≡ end = sym f.is in
        let well : is_utf8 (drop end s) ≡ true = ap (λ (n : ℕ). is_utf8 (drop n s)) f.is ∙ p.well in
        let on : decode (drop end s) ≡ (cite_end ∷ []) ++ drop 1 f.later = ap (λ (n : ℕ). decode (drop n s)) f.is ∙ p.goes ∙ closed f in
        let r = passed s end (cite_end ∷ []) (drop 1 f.later) (omega arith) well on in
        let next : end + length (encode (cite_end ∷ [])) ≡ end + 1 = ap (λ (n : ℕ). end + n) end_size in
        let size : end - at ≡ length (encode f.text) = omega (arith, f.is) in
        record {
          order = omega (arith, f.is);
          ahead = record { later = omega arith; room = omega arith; well = ap (λ (n : ℕ). is_utf8 (drop n s)) (sym next) ∙ r.well };
          goes =
              goes f
              ∙ ap (λ (x : Bool). cond x (halt EmptyCondition) (meets at (cited (encode f.text)) (scan (end + 1) (drop 1 f.later)))) (go f (blank f.text) refl)
              ∙ ap (λ (x : List ℕ). meets at (cited x) (scan (end + 1) (drop 1 f.later))) (sym (ap (λ (n : ℕ). take n (drop at s)) size ∙ p.bytes))
              ∙ ap (λ (x : List ℕ). meets at (cited (take (end - at) (drop at s))) (scan (end + 1) x)) (sym (ap (λ (n : ℕ). decode (drop n s)) (sym next) ∙ r.goes));
        }
      where
        go : (f : Found s at end) (x : Bool) → blank f.text ≡ x → blank f.text ≡ false
        go f false k = k
        go f true k =
            absurd (q (omega (arith, f.is, ap (λ (x : List ℕ). length (encode x)) (white f ∙ lead_blank cite_end f.text (drop 1 f.later) end_black k))))
