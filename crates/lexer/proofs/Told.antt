-- What the answers of `lex`, `first_word` and `join_words` tell a reader. Assumes nothing.
use Rattle.std.specs.Prelude.{Result, Ok, Err}
use Prim.Native.Nat.{ℕ, ◌-◌, ◌≤◌}
use mathlib.Core.Path.{◌≡◌, refl, sym, ap, ◌∙◌}
use mathlib.Core.Bool.{Bool, true, false, cond}
use mathlib.Core.Logic.{inl}
use mathlib.Core.List.{List, [], ◌∷◌, ◌++◌}
use native.Mathlib.Omega.{arith}
use lib.Dec.{eqb}
use lib.ListN.{length, take, drop, length-append}
use lib.Seq.{take_all, take_at}
use borrow.Author.Tests.{ne_eqb}
use Rattle.refusal.specs.Result.{unless_ok, err≢ok, map_ok, then}
use Rattle.refusal.specs.declared.Refusal.{Refusal}
use Rattle.refusal.specs.declared.Refusal.TheVariants.{NoStatusWord, Empty, TooManyCitations, TooDeep}
use Rattle.text.specs.Bytes.{over}
use Rattle.utf8.specs.Utf8.{is_utf8, decode, encode}
use Rattle.utf8.specs.White.{is_white}
use Rattle.utf8.proofs.Sound.{utf8_sound}
use Rattle.utf8.proofs.Encode.{encoded}
use Rattle.status.specs.declared.StatusKind.{StatusKind}
use Rattle.status.specs.Status.{kind_among, kind_of_word}
use Rattle.grammar.specs.Expr.{concat}
use Rattle.grammar.specs.Lex.{blank_char, Tok, cited, op, opening, closing, lex, texts}
use Rattle.grammar.specs.Reading.{citation_limit, open_limit, some_token, few, shallow, expression}
use Rattle.grammar.proofs.Reading.{few_says}
use Rattle.grammar.specs.Status.{ended, words_from, words, spaced, joined, alone, stated, after_word, of_words}
use Rattle.grammar.proofs.StatusLaws.{rest_size, rest_scalars}
use Rattle.lexer.specs.Runs.{leading, trailing, run_end, first_word}
use Rattle.lexer.specs.Tokens.{kinds_of, counted, limited, tokenized, cuts}
use Rattle.lexer.specs.Scan.{scanned, places_in, scan_lex, scanned-all}
use Rattle.lexer.specs.State.{reading}
use Rattle.lexer.specs.declared.Lexed.{Lexed}
use Rattle.lexer.specs.declared.TokenKind.{TokenKind}
use Rattle.lexer.specs.declared.Place.{Place}
use Rattle.lexer.proofs.Split.{encode_append, size_cons, char_size}
use Rattle.lexer.proofs.Runs.{trail_stop, run_starts}
use Rattle.lexer.proofs.Scans.{places_count, places_cut}
use Rattle.lexer.proofs.Turns.{Answers, kinds-length}
use Rattle.lexer.proofs.Joining.{words_none, words_white, word_split, run-passed}

-- citations are tokens
pub texts_fewer : (ts : List Tok) → length (texts ts) ≤ length ts
unfolding texts
texts_fewer [] = omega arith
texts_fewer (cited t ∷ ts) = omega (arith, texts_fewer ts)
texts_fewer (op o ∷ ts) = omega (arith, texts_fewer ts)
texts_fewer (opening ∷ ts) = omega (arith, texts_fewer ts)
texts_fewer (closing ∷ ts) = omega (arith, texts_fewer ts)

-- tokens that are ready passed the tests
pub record Ready (cs : List ℕ) (ts : List Tok) : Type 0 where
  pub lexed : lex cs ≡ Ok ts
  pub some : some_token ts ≡ true
  pub limited : few (texts ts) ≡ true
  pub level : shallow open_limit 0 ts ≡ true

same_tokens : (a b : List Tok) → ◌≡◌ {A = Result (List Tok) Refusal} (Ok a) (Ok b) → a ≡ b
same_tokens a b h = cc

pub ready : (cs : List ℕ) (ts : List Tok) → tokenized cs ≡ Ok ts → Ready cs ts
unfolding tokenized limited then
ready cs ts h = go (lex cs) refl h
  where
    go : (r : Result (List Tok) Refusal) → lex cs ≡ r → then r limited ≡ Ok ts → Ready cs ts
    go (Err k) q g = absurd (err≢ok g)
    go (Ok us) q g =
        let p = unless_ok (some_token us) Empty _ ts g in
        let p₂ = unless_ok (few (texts us)) TooManyCitations _ ts p.1 in
        let p₃ = unless_ok (shallow open_limit 0 us) TooDeep _ ts p₂.1 in
        let e = same_tokens us ts p₃.1 in
        record {
          lexed = q ∙ ap Ok e;
          some = ap some_token (sym e) ∙ p.0;
          limited = ap (λ (x : List Tok). few (texts x)) (sym e) ∙ p₂.0;
          level = ap (shallow open_limit 0) (sym e) ∙ p₃.0;
        }

-- what counts tell, where as many places have room as there can be citations
pub record Told (s : List ℕ) (kinds : List TokenKind) (places : List Place) (n m b : ℕ) : Type 0 where
  pub toks : List Tok
  pub is : tokenized (decode s) ≡ Ok toks
  pub ready : Ready (decode s) toks
  pub tokens : n ≡ length toks
  pub cites : m ≡ length (texts toks)
  pub bytes : b ≡ length (concat (texts toks))
  pub room : n ≤ length kinds
  pub fewer : m ≤ n
  pub most : m ≤ citation_limit
  pub shown : take n kinds ≡ kinds_of toks
  pub held : cuts s (take m places) ≡ texts toks

-- the tokens behind counts
record Counted (r : Result (List Tok) Refusal) (n m b : ℕ) : Type 0 where
  pub toks : List Tok
  pub is : r ≡ Ok toks
  pub tokens : n ≡ length toks
  pub cites : m ≡ length (texts toks)
  pub bytes : b ≡ length (concat (texts toks))

behind : (r : Result (List Tok) Refusal) (n m b : ℕ) → Ok (record { tokens = n; cites = m; bytes = b }) ≡ map_ok counted r → Counted r n m b
unfolding map_ok
behind (Ok ts) n m b e =
    let x : record { tokens = n; cites = m; bytes = b } ≡ counted ts = cc in
    record { toks = ts; is = refl; tokens = ap (λ (y : Lexed). y.tokens) x; cites = ap (λ (y : Lexed). y.cites) x; bytes = ap (λ (y : Lexed). y.bytes) x }
behind (Err k) n m b e = absurd (err≢ok (sym e))

pub told : (s : List ℕ) (kinds₀ : List TokenKind) (places₀ : List Place) (kinds : List TokenKind) (places : List Place) (n m b : ℕ) → is_utf8 s ≡ true → length places ≡ length places₀ → (m ≤ citation_limit → m ≤ length kinds → m ≤ length places)
    → Answers s kinds₀ places₀ kinds places (Ok (record { tokens = n; cites = m; bytes = b })) → Told s kinds places n m b
told s kinds₀ places₀ kinds places n m b u same l a =
    let c = behind (tokenized (decode s)) n m b a.0 in
    let ts = c.toks in
    let r = ready (decode s) ts c.is in
    let f = few_says (texts ts) r.limited in
    let met : scanned (reading s) ≡ ts = scanned-all (reading s) ts (scan_lex 0 (decode s) ∙ r.lexed) in
    let front : kinds ≡ over (kinds_of ts) kinds₀ = a.1.0 ∙ ap (λ x. over (kinds_of x) kinds₀) met in
    let size : length (kinds_of ts) ≡ n = kinds-length ts ∙ sym c.tokens in
    let room : n ≤ length kinds = omega (arith, size, ap length front, length-append (kinds_of ts) (drop (length (kinds_of ts)) kinds₀)) in
    let fewer : m ≤ n = omega (arith, c.tokens, c.cites, texts_fewer ts) in
    let most : m ≤ citation_limit = omega (arith, c.cites, f.0) in
    let spots : length (places_in (reading s)) ≡ m = places_count (reading s) ∙ ap (λ x. length (texts x)) met ∙ sym c.cites in
    let all : take (length places₀) (places_in (reading s)) ≡ places_in (reading s) = take_all (length places₀) (places_in (reading s)) (omega (arith, spots, same, l most (omega arith))) in
    let sited : places ≡ over (places_in (reading s)) places₀ = a.1.1 ∙ ap (λ x. over x places₀) all in
    record {
      toks = ts;
      is = c.is;
      ready = r;
      tokens = c.tokens;
      cites = c.cites;
      bytes = c.bytes;
      room = room;
      fewer = fewer;
      most = most;
      shown = ap (take n) front ∙ take_at (kinds_of ts) _ n size;
      held =
          ap (λ x. cuts s (take m x)) sited
          ∙ ap (cuts s) (take_at (places_in (reading s)) _ m spots)
          ∙ places_cut s (decode s) (utf8_sound s u).1
          ∙ ap texts met;
    }

-- what a refusal tells
pub told_refused : (r : Result (List Tok) Refusal) (why : Refusal) → Err why ≡ map_ok counted r → r ≡ Err why
unfolding map_ok
told_refused (Ok ts) why e = absurd (err≢ok e)
told_refused (Err k) why e = cc

-- the joined words of a text
abbrev pub joined_bytes : List ℕ → List ℕ
joined_bytes t = encode (joined (words (decode t)))

-- a text's first word, and what stands after it
pub record First (s : List ℕ) : Type 0 where
  pub order : (first_word s).from ≤ (first_word s).end
  pub room : (first_word s).end ≤ length s
  pub well : is_utf8 (drop (first_word s).end s) ≡ true
  pub small : length (joined_bytes (drop (first_word s).end s)) ≤ length s
  pub is : of_words (words (decode s)) ≡ then (kind_of_word (take ((first_word s).end - (first_word s).from) (drop (first_word s).from s))) (λ k. after_word k (words (decode (drop (first_word s).end s))))

no_kind : kind_of_word [] ≡ Err NoStatusWord
unfolding kind_of_word kind_among
no_kind = refl

-- the first word decides on the status, also where there is none
word_decides : (w : List ℕ) (ws : List (List ℕ)) → (length (encode w) ≡ 0 → ws ≡ []) → of_words (ended w ++ ws) ≡ then (kind_of_word (encode w)) (λ k. after_word k ws)
unfolding of_words ended then
word_decides [] ws h = rw (h refl, no_kind)
word_decides (c ∷ w) ws h = refl

-- where neither run can begin, nothing is left
none_at : (cs : List ℕ) → leading true cs ≡ [] → length (encode (leading false cs)) ≡ 0 → cs ≡ []
none_at [] h z = refl
none_at (c ∷ cs) h z = absurd (omega (arith, run_starts true (c ∷ cs) h (λ q. omega (arith, ap length q))))

trail_none : (w : Bool) → trailing w [] ≡ []
unfolding trailing
trail_none w = refl

joined_none : joined [] ≡ []
unfolding joined
joined_none = refl

joined_some : (w : List ℕ) (ws : List (List ℕ)) → length (encode w) ≤ length (encode (joined (w ∷ ws)))
unfolding joined
joined_some w ws = omega (arith, ap length (encode_append w (spaced ws)), length-append (encode w) (encode (spaced ws)))

-- the words after the first, without white space before it
after_none : (cs : List ℕ) → leading true cs ≡ [] → length (encode (leading false cs)) ≡ 0 → words (trailing false cs) ≡ []
after_none cs h z = ap (λ (x : List ℕ). words (trailing false x)) (none_at cs h z) ∙ ap words (trail_none false) ∙ words_none

size_after : (cs w : List ℕ) (ws : List (List ℕ)) → words cs ≡ ended w ++ ws → (length (encode w) ≡ 0 → ws ≡ []) → length (encode (joined ws)) ≤ length (encode cs)
unfolding ended
size_after cs [] ws h k = omega (arith, ap (λ (x : List (List ℕ)). length (encode (joined x))) (k refl), ap (λ (x : List ℕ). length (encode x)) joined_none)
size_after cs (c ∷ w) ws h k = rest_size cs (c ∷ w) ws h

pub first_told : (s : List ℕ) → is_utf8 s ≡ true → First s
unfolding first_word
first_told s u =
    let a = run_end true s 0 in
    let p = run-passed true s 0 (omega arith) u in
    let e = run_end false s a in
    let q = run-passed false s a p.room p.well in
    let w = leading false (decode (drop a s)) in
    let ws = words (decode (drop e s)) in
    let size : e - a ≡ length (encode w) = omega arith in
    let all : words (decode s) ≡ ended w ++ ws =
    words_white (decode s)
    ∙ ap words (sym p.goes)
    ∙ word_split (decode (drop a s))
    ∙ ap (λ (x : List ℕ). ended w ++ words x) (sym q.goes) in
    let stop : leading true (decode (drop a s)) ≡ [] = ap (leading true) p.goes ∙ trail_stop true (decode s) in
    let none : length (encode w) ≡ 0 → ws ≡ [] = λ z. ap words q.goes ∙ after_none (decode (drop a s)) stop z in
    record {
      order = omega arith;
      room = q.room;
      well = q.well;
      small = omega (arith, size_after (decode s) w ws all none, ap length (utf8_sound s u).1);
      is = ap of_words all ∙ word_decides w ws none ∙ ap (λ (x : List ℕ). then (kind_of_word x) (λ k. after_word k ws)) (sym (ap (λ (n : ℕ). take n (drop a s)) size ∙ q.bytes));
    }

ended_nothing : (w : List ℕ) (ws : List (List ℕ)) → length (encode (joined (ended w ++ ws))) ≡ 0 → (length (encode w) ≡ 0 → ws ≡ []) → ended w ++ ws ≡ []
unfolding ended
ended_nothing [] ws h k = k refl
ended_nothing (c ∷ w) ws h k = absurd (omega (arith, joined_some (c ∷ w) ws, size_cons c w, char_size c))

-- words that are there have bytes
words_size : (cs : List ℕ) → length (encode (joined (words cs))) ≡ 0 → words cs ≡ []
words_size cs z =
    let r = trailing true cs in
    let w = leading false r in
    let ws = words (trailing false r) in
    let all : words cs ≡ ended w ++ ws = words_white cs ∙ word_split r in
    all ∙ ended_nothing w ws (ap (λ (x : List (List ℕ)). length (encode (joined x))) (sym all) ∙ z) (after_none r (trail_stop true cs))

-- what follows a status word, by whether joined words are there
pub after_told : (k : StatusKind) (t : List ℕ)
    → after_word k (words (decode t)) ≡ cond (eqb (length (joined_bytes t)) 0) (Ok (alone k)) (map_ok (stated k) (expression (joined (words (decode t)))))
unfolding after_word
after_told k t = go (words (decode t)) (words_size (decode t))
  where
    go : (ws : List (List ℕ)) → (length (encode (joined ws)) ≡ 0 → ws ≡ []) → after_word k ws ≡ cond (eqb (length (encode (joined ws))) 0) (Ok (alone k)) (map_ok (stated k) (expression (joined ws)))
    go [] h = sym (ap (λ (x : List ℕ). cond (eqb (length (encode x)) 0) (Ok (alone k)) (map_ok (stated k) (expression (joined [])))) joined_none)
    go (w ∷ ws) h = rw (ne_eqb (length (encode (joined (w ∷ ws)))) 0 (λ q. omega (arith, ap length (h q))))

two_words : (cs : List ℕ) → words (0x21 ∷ blank_char ∷ cs) ≡ (0x21 ∷ []) ∷ words cs
unfolding words words_from ended is_white
two_words cs = refl

-- the joined words of a text are a text
pub joined_told : (t : List ℕ) → is_utf8 t ≡ true → (is_utf8 (joined_bytes t) ≡ true) × (decode (joined_bytes t) ≡ joined (words (decode t)))
joined_told t u =
    let cs = decode t in
    encoded (joined (words cs)) (rest_scalars (0x21 ∷ blank_char ∷ cs) (0x21 ∷ []) (words cs) (inl (omega arith), (inl (omega arith), (utf8_sound t u).0)) (two_words cs))
