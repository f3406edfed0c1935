-- The words of a text, the first of them, and the others joined. Assumes nothing.
use Prim.Native.Nat.{ℕ, ◌+◌, ◌-◌, ◌≤◌, ◌<◌}
use mathlib.Core.Path.{◌≡◌, refl, sym, ap, ◌∙◌}
use mathlib.Core.Bool.{Bool, true, false, cond}
use mathlib.Core.List.{List, [], ◌∷◌, ◌++◌, append_assoc, append-nil}
use native.Mathlib.Omega.{arith}
use lib.Dec.{eqb}
use lib.ListN.{length, take, drop}
use lib.Seq.{append_snoc}
use borrow.Author.Tests.{eq-eqb, ne_eqb, eqb-true, eqb-false}
use Rattle.utf8.specs.Utf8.{is_utf8, decode, encode, encode_char}
use Rattle.utf8.specs.White.{is_white}
use Rattle.grammar.specs.Lex.{blank_char}
use Rattle.grammar.specs.Status.{ended, words_from, words, spaced, joined}
use Rattle.fields.specs.Appended.{Appended}
use Rattle.fields.proofs.Appends as appends
use Rattle.lexer.specs.Runs.{leading, trailing, run_end, gap}
use Rattle.lexer.proofs.Split.{encode_append, Passed, passed, some_left}
use Rattle.lexer.proofs.Runs.{lead_trail, trail_stop, run_starts}

pub words_none : words [] ≡ []
unfolding words words_from ended
words_none = refl

-- white space before the words
pub words_white : (cs : List ℕ) → words cs ≡ words (trailing true cs)
unfolding words words_from ended trailing
words_white [] = refl
words_white (c ∷ cs) = go (is_white c) refl (words_white cs)
  where
    go : (b : Bool) → is_white c ≡ b → words_from [] cs ≡ words_from [] (trailing true cs) → words_from [] (c ∷ cs) ≡ words_from [] (trailing true (c ∷ cs))
    go true e h = rw e h
    go false e h = rw (e, e)

-- a word's characters go on until white space
words-run : (t cs : List ℕ) → words_from t cs ≡ ended (t ++ leading false cs) ++ words (trailing false cs)
unfolding words words_from ended leading trailing
words-run t [] = sym (ap (λ (x : List (List ℕ)). ended (t ++ []) ++ x) words_none ∙ append-nil (ended (t ++ [])) ∙ ap ended (append-nil t))
words-run t (c ∷ cs) = go (is_white c) refl (words-run (t ++ (c ∷ [])) cs)
  where
    go : (b : Bool) → is_white c ≡ b → words_from (t ++ (c ∷ [])) cs ≡ ended ((t ++ (c ∷ [])) ++ leading false cs) ++ words_from [] (trailing false cs)
        → words_from t (c ∷ cs) ≡ ended (t ++ leading false (c ∷ cs)) ++ words_from [] (trailing false (c ∷ cs))
    go true e h = rw (e, e, append-nil t)
    go false e h = rw (e, ← append_snoc t c (leading false cs)) h

pub word_split : (cs : List ℕ) → words cs ≡ ended (leading false cs) ++ words (trailing false cs)
unfolding words
word_split cs = words-run [] cs

ended_some : (t : List ℕ) → 1 ≤ length (encode t) → ended t ≡ t ∷ []
unfolding ended
ended_some [] h = absurd (omega arith)
ended_some (c ∷ t) h = refl

-- a run from `at` on, and what stands after it
pub run-passed : (w : Bool) (s : List ℕ) (at : ℕ) → at ≤ length s → is_utf8 (drop at s) ≡ true → Passed s at (leading w (decode (drop at s))) (trailing w (decode (drop at s)))
run-passed w s at h u = passed s at (leading w (decode (drop at s))) (trailing w (decode (drop at s))) h u (lead_trail w (decode (drop at s)))

spaced_snoc : (ws : List (List ℕ)) (w : List ℕ) → spaced (ws ++ (w ∷ [])) ≡ spaced ws ++ (blank_char ∷ w)
unfolding spaced
spaced_snoc [] w = ap (λ (x : List ℕ). blank_char ∷ x) (append-nil w)
spaced_snoc (v ∷ ws) w = ap (λ (x : List ℕ). blank_char ∷ (v ++ x)) (spaced_snoc ws w) ∙ ap (λ (x : List ℕ). blank_char ∷ x) (sym (append_assoc v (spaced ws) (blank_char ∷ w)))

joined-first : (w : List ℕ) → joined (w ∷ []) ≡ w
unfolding joined spaced
joined-first w = append-nil w

joined-next : (v : List ℕ) (ws : List (List ℕ)) (w : List ℕ) → joined ((v ∷ ws) ++ (w ∷ [])) ≡ joined (v ∷ ws) ++ (blank_char ∷ w)
unfolding joined
joined-next v ws w = ap (λ (x : List ℕ). v ++ x) (spaced_snoc ws w) ∙ sym (append_assoc v (spaced ws) (blank_char ∷ w))

joined_none : joined [] ≡ []
unfolding joined
joined_none = refl

encode-blank : (w : List ℕ) → encode (blank_char ∷ w) ≡ blank_char ∷ encode w
unfolding encode_char
encode-blank w = refl

-- the bytes of the joined words with one word more
join_more : (n : ℕ) (ws : List (List ℕ)) (w : List ℕ) → n ≡ length (encode (joined ws)) → (n ≡ 0 → ws ≡ []) → encode (joined (ws ++ (w ∷ []))) ≡ (encode (joined ws) ++ gap n) ++ encode w
join_more n [] w e k =
    let z : n ≡ 0 = e ∙ ap (λ (x : List ℕ). length (encode x)) joined_none in
    ap encode (joined-first w)
    ∙ sym (ap (λ (x : List ℕ). (encode x ++ gap n) ++ encode w) joined_none ∙ ap (λ (x : Bool). cond x [] (blank_char ∷ []) ++ encode w) (eq-eqb n 0 z))
join_more n (v ∷ ws) w e k =
    let z : eqb n 0 ≡ false = ne_eqb n 0 (λ q. some (k q)) in
    ap encode (joined-next v ws w)
    ∙ encode_append (joined (v ∷ ws)) (blank_char ∷ w)
    ∙ ap (λ (x : List ℕ). encode (joined (v ∷ ws)) ++ x) (encode-blank w)
    ∙ sym (append_snoc (encode (joined (v ∷ ws))) blank_char (encode w))
    ∙ ap (λ (x : Bool). (encode (joined (v ∷ ws)) ++ cond x [] (blank_char ∷ [])) ++ encode w) (sym z)
  where
    some : v ∷ ws ≡ [] → ⊥
    some q = omega (arith, ap length q)

gap_none : (n : ℕ) → n ≡ 0 → length (gap n) ≡ 0
gap_none n h = rw (eq-eqb n 0 h)

pub gap_some : (n : ℕ) → (n ≡ 0 → ⊥) → length (gap n) ≡ 1
gap_some n h = rw (ne_eqb n 0 h)

-- the words from `from` up to `at` have been joined; none goes on at `at`
pub record Joining (s : List ℕ) (from : ℕ) (old out : List ℕ) (at n : ℕ) : Type 0 where
  pub done : List (List ℕ)
  pub room : at ≤ length s
  pub well : is_utf8 (drop at s) ≡ true
  pub less : from + n ≤ at
  pub stop : (n ≡ 0 → ⊥) → leading false (decode (drop at s)) ≡ []
  pub none : n ≡ 0 → done ≡ []
  pub written : Appended (encode (joined done)) 0 old out n
  pub goes : words (decode (drop from s)) ≡ done ++ words (decode (drop at s))

joined_size : {text : List ℕ} {q : ℕ} {old new : List ℕ} → Appended text 0 old new q → q ≡ length text
joined_size h = omega (arith, h.ends)

pub joining_start : (s out : List ℕ) (from : ℕ) → from ≤ length s → is_utf8 (drop from s) ≡ true → Joining s from out out from 0
joining_start s out from h u =
    record {
      done = [];
      room = h;
      well = u;
      less = omega arith;
      stop = λ k. absurd (k refl);
      none = λ _. refl;
      written = appends.same (sym (ap encode joined_none)) (appends.nothing 0 out);
      goes = refl;
    }

-- after the words up to `at`, white space up to p
module _ {s old out : List ℕ} {from at n : ℕ} (h : Joining s from old out at n) (p : ℕ) (f : p ≡ run_end true s at) where
  white : Passed s at (leading true (decode (drop at s))) (trailing true (decode (drop at s)))
  white = run-passed true s at h.room h.well

  white_left : decode (drop p s) ≡ trailing true (decode (drop at s))
  white_left = ap (λ (k : ℕ). decode (drop k s)) f ∙ white.goes

  words_left : words (decode (drop at s)) ≡ words (decode (drop p s))
  words_left = words_white (decode (drop at s)) ∙ ap words (sym white_left)

  -- one word more, which ends at `end`
  module _ (end : ℕ) (e : end ≡ run_end false s p) (l : p < end) where
    abbrev word : List ℕ
    word = leading false (decode (drop p s))

    here : Passed s p word (trailing false (decode (drop p s)))
    here = run-passed false s p (omega (arith, f, white.room)) (ap (λ (k : ℕ). is_utf8 (drop k s)) f ∙ white.well)

    pub word_room : end ≤ length s
    word_room = omega (arith, e, here.room)

    -- white space stands in front of a word that is not the first
    apart : (n ≡ 0 → ⊥) → at < p
    apart k = omega (arith, f, run_starts false (decode (drop at s)) (h.stop k) (some_left s at (omega (arith, f, l, word_room)) h.well))

    -- a space and the word have room
    word_fits : from + (n + length (gap n) + (end - p)) ≤ end
    word_fits = go (eqb n 0) refl
      where
        go : (b : Bool) → eqb n 0 ≡ b → from + (n + length (gap n) + (end - p)) ≤ end
        go true z = omega (arith, gap_none n (eqb-true n 0 z), eqb-true n 0 z, h.less, f, l)
        go false z = omega (arith, gap_some n (eqb-false n 0 z), h.less, apart (eqb-false n 0 z), l)

    word_size : end - p ≡ length (encode word)
    word_size = omega (arith, e)

    bytes_on : take (end - p) (drop p s) ≡ encode word
    bytes_on = ap (λ (k : ℕ). take k (drop p s)) word_size ∙ here.bytes

    word_left : decode (drop end s) ≡ trailing false (decode (drop p s))
    word_left = ap (λ (k : ℕ). decode (drop k s)) e ∙ here.goes

    words_on : words (decode (drop at s)) ≡ word ∷ words (decode (drop end s))
    words_on =
        words_left
        ∙ word_split (decode (drop p s))
        ∙ ap (λ (x : List (List ℕ)). x ++ words (trailing false (decode (drop p s)))) (ended_some word (omega (arith, word_size, l)))
        ∙ ap (λ (x : List ℕ). word ∷ words x) (sym word_left)

    module _ (to m : ℕ) (spaced-out out' : List ℕ) (v : Appended (gap n) n out spaced-out to) (w : Appended (take (end - p) (drop p s)) to spaced-out out' m) where
      all : (encode (joined h.done) ++ gap n) ++ encode word ≡ encode (joined (h.done ++ (word ∷ [])))
      all = sym (join_more n h.done word (joined_size h.written) h.none)

      m-is : m ≡ n + length (gap n) + (end - p)
      m-is = omega (arith, v.ends, w.ends, ap length bytes_on, word_size)

      pub joining_on : Joining s from old out' end m
      joining_on = record {
        done = h.done ++ (word ∷ []);
        room = word_room;
        well = ap (λ (k : ℕ). is_utf8 (drop k s)) e ∙ here.well;
        less = omega (arith, word_fits, m-is);
        stop = λ _. ap (leading false) word_left ∙ trail_stop false (decode (drop p s));
        none = λ z. absurd (omega (arith, m-is, z, l));
        written = appends.same (ap (λ (x : List ℕ). (encode (joined h.done) ++ gap n) ++ x) bytes_on ∙ all) (appends.both (appends.both h.written v) w);
        goes = h.goes ∙ ap (λ (x : List (List ℕ)). h.done ++ x) words_on ∙ sym (append_snoc h.done word (words (decode (drop end s))));
      }

no_word : (cs : List ℕ) → leading true cs ≡ [] → length (encode (leading false cs)) ≡ 0 → cs ≡ []
no_word [] h z = refl
no_word (c ∷ cs) h z = absurd (omega (arith, z, run_starts true (c ∷ cs) h (λ q. omega (arith, ap length q))))

-- where no word is left
pub joining_end : {s old out : List ℕ} {from at n : ℕ} → Joining s from old out at n → run_end false s (run_end true s at) ≡ run_end true s at
    → (n ≡ length (encode (joined (words (decode (drop from s)))))) × (out ≡ encode (joined (words (decode (drop from s)))) ++ drop n old)
joining_end {s} {old} {out} {from} {at} {n} h l =
    let p = run_end true s at in
    let k : decode (drop p s) ≡ [] =
    no_word (decode (drop p s)) (ap (leading true) (white_left h p refl) ∙ trail_stop true (decode (drop at s))) (omega (arith, l)) in
    let g : h.done ≡ words (decode (drop from s)) =
    sym (h.goes ∙ ap (λ (x : List (List ℕ)). h.done ++ x) (words_left h p refl ∙ ap words k ∙ words_none) ∙ append-nil h.done) in
    let w = appends.same (ap (λ (x : List (List ℕ)). encode (joined x)) g) h.written in
    let size = joined_size w in
    (size, appends.whole w ∙ ap (λ (x : ℕ). encode (joined (words (decode (drop from s)))) ++ drop x old) (sym size))
