-- What follows a status word is read as an expression is. Assumes nothing.
use Rattle.std.specs.Prelude.{◌≡◌, refl, List, [], ◌∷◌, ◌++◌, true, ℕ, ◌+◌, ◌≤◌, leb, ltb, length, Result, Ok, Err}
use Rattle.std.proofs.Common.{sym, ap, ◌∙◌, subst, append_assoc, inl, arith, length-append, le-leb, leb-true}
use Rattle.laws.specs.Tests.{cond_both}
use Rattle.refusal.specs.declared.Refusal.{Refusal}
use Rattle.refusal.specs.Result.{err≢ok, map_ok, then}
use Rattle.utf8.specs.Utf8.{is_utf8, decode, encode, encode_char, Scalars}
use Rattle.utf8.specs.White.{is_white}
use Rattle.utf8.specs.Limits.{text_limit}
use Rattle.utf8.proofs.Encode.{encoded}
use Rattle.utf8.proofs.Sound.{utf8_sound}
use Rattle.utf8.proofs.Limits.{admitted_ok, fits}
use Rattle.status.specs.declared.StatusKind.{StatusKind}
use Rattle.status.specs.Status.{kind_of_word}
use Rattle.grammar.specs.Expr.{Expr}
use Rattle.grammar.specs.Lex.{blank_char}
use Rattle.grammar.specs.Reading.{expression, reading}
use Rattle.grammar.specs.Status.{ended, words_from, words, spaced, joined, Stated, alone, stated, after_word, of_words, status_reading}
use Rattle.grammar.specs.StatusLaws.{States}

encode_append : (a b : List ℕ) → encode (a ++ b) ≡ encode a ++ encode b
encode_append [] b = refl
encode_append (c ∷ a) b = ap (λ x. encode_char c ++ x) (encode_append a b) ∙ sym (append_assoc (encode_char c) (encode a) (encode b))

-- the bytes of characters
size : List ℕ → ℕ
size cs = length (encode cs)

none_size : size [] ≡ 0
unfolding size
none_size = refl

size_append : (a b : List ℕ) → size (a ++ b) ≡ size a + size b
unfolding size
size_append a b = ap length (encode_append a b) ∙ length-append (encode a) (encode b)

char_size : (c : ℕ) → 1 ≤ length (encode_char c)
unfolding encode_char
char_size c =
    cond_both (λ (l : List ℕ). 1 ≤ length l) (ltb c 0x80) _ _ (λ _. omega arith)
    λ _. cond_both (λ (l : List ℕ). 1 ≤ length l) (ltb c 0x800) _ _ (λ _. omega arith)
    λ _. cond_both (λ (l : List ℕ). 1 ≤ length l) (ltb c 0x10000) _ _ (λ _. omega arith) λ _. omega arith

size_cons : (c : ℕ) (cs : List ℕ) → size (c ∷ cs) ≡ length (encode_char c) + size cs
unfolding size
size_cons c cs = length-append (encode_char c) (encode cs)

spaced_append : (a b : List (List ℕ)) → spaced (a ++ b) ≡ spaced a ++ spaced b
unfolding spaced
spaced_append [] b = refl
spaced_append (w ∷ a) b = rw (spaced_append a b) (ap (λ x. blank_char ∷ x) (sym (append_assoc w (spaced a) (spaced b))))

blank_size : (cs : List ℕ) → size (blank_char ∷ cs) ≡ 1 + size cs
unfolding size encode_char
blank_size cs = omega arith

ended_size : (t : List ℕ) → size (spaced (ended t)) ≤ 1 + size t
unfolding spaced ended
ended_size [] = omega (arith, none_size)
ended_size (c ∷ t) = omega (arith, blank_size ((c ∷ t) ++ []), size_append (c ∷ t) [], none_size)

spaced_size : (t cs : List ℕ) → size (spaced (words_from t cs)) ≤ 1 + (size t + size cs)
unfolding words_from
spaced_size t [] = omega (arith, ended_size t)
spaced_size t (c ∷ cs) =
    cond_both (λ (ws : List (List ℕ)). size (spaced ws) ≤ 1 + (size t + size (c ∷ cs))) (is_white c) (ended t ++ words_from [] cs) (words_from (t ++ (c ∷ [])) cs)
    (λ _. omega (arith, ap size (spaced_append (ended t) (words_from [] cs)), size_append (spaced (ended t)) (spaced (words_from [] cs)), ended_size t, spaced_size [] cs, size_cons c cs, char_size c, none_size))
    λ _. omega (arith, spaced_size (t ++ (c ∷ [])) cs, size_append t (c ∷ []), size_append (c ∷ []) cs)

joined_size : (ws : List (List ℕ)) → size (joined ws) ≤ size (spaced ws)
unfolding joined spaced
joined_size [] = omega arith
joined_size (w ∷ ws) = omega (arith, blank_size (w ++ spaced ws))

-- the words after the first, joined, are no longer than the text
pub rest_size : (cs w : List ℕ) (ws : List (List ℕ)) → words cs ≡ w ∷ ws → length (encode (joined ws)) ≤ length (encode cs)
unfolding words spaced size
rest_size cs w ws h =
    omega (arith, spaced_size [] cs, ap (λ x. size (spaced x)) h, blank_size (w ++ spaced ws), size_append w (spaced ws), joined_size ws)

abbrev AllScalars : List (List ℕ) → Type 0
AllScalars [] = Unit
AllScalars (w ∷ ws) = Scalars w × AllScalars ws

scalars_append : (a b : List ℕ) → Scalars a → Scalars b → Scalars (a ++ b)
scalars_append [] b h k = k
scalars_append (c ∷ a) b h k = (h.0, scalars_append a b h.1 k)

ended_scalars : (t : List ℕ) (ws : List (List ℕ)) → Scalars t → AllScalars ws → AllScalars (ended t ++ ws)
unfolding ended
ended_scalars [] ws h k = k
ended_scalars (c ∷ t) ws h k = (h, k)

words_scalars : (t cs : List ℕ) → Scalars t → Scalars cs → AllScalars (words_from t cs)
unfolding words_from ended
words_scalars [] [] h k = tt
words_scalars (c ∷ t) [] h k = (h, tt)
words_scalars t (c ∷ cs) h k =
    cond_both AllScalars (is_white c) (ended t ++ words_from [] cs) (words_from (t ++ (c ∷ [])) cs)
    (λ _. ended_scalars t (words_from [] cs) h (words_scalars [] cs tt k.1))
    λ _. words_scalars (t ++ (c ∷ [])) cs (scalars_append t (c ∷ []) h (k.0, tt)) k.1

spaced_scalars : (ws : List (List ℕ)) → AllScalars ws → Scalars (spaced ws)
unfolding spaced
spaced_scalars [] h = tt
spaced_scalars (w ∷ ws) h = (inl (omega arith), scalars_append w (spaced ws) h.0 (spaced_scalars ws h.1))

joined_scalars : (ws : List (List ℕ)) → AllScalars ws → Scalars (joined ws)
unfolding joined
joined_scalars [] h = tt
joined_scalars (w ∷ ws) h = scalars_append w (spaced ws) h.0 (spaced_scalars ws h.1)

-- the joined words after the first are characters
pub rest_scalars : (cs w : List ℕ) (ws : List (List ℕ)) → Scalars cs → words cs ≡ w ∷ ws → Scalars (joined ws)
unfolding words
rest_scalars cs w ws s h = joined_scalars ws (subst AllScalars h (words_scalars [] cs tt s)).1

-- the joined words after the first are read as any text is
pub rest-reading : (s w : List ℕ) (ws : List (List ℕ)) → leb (length s) text_limit ≡ true → is_utf8 s ≡ true → words (decode s) ≡ w ∷ ws
    → reading (encode (joined ws)) ≡ expression (joined ws)
unfolding reading
rest-reading s w ws l v h =
    let u = utf8_sound s v in
    let e = encoded (joined ws) (rest_scalars (decode s) w ws u.0 h) in
    let short : length (encode (joined ws)) ≤ text_limit = omega (arith, rest_size (decode s) w ws h, ap length u.1, leb-true (length s) text_limit l) in
    fits text_limit (encode (joined ws)) (expression (decode (encode (joined ws)))) (le-leb (length (encode (joined ws))) text_limit short, e.0)
    ∙ ap expression e.1

stated_same : (a b : StatusKind) (e f : Expr) → ◌≡◌ {A = Result Stated Refusal} (Ok (stated a e)) (Ok (stated b f)) → (a ≡ b) × (e ≡ f)
stated_same a b e f h = (cc, cc)

alone≢stated : (a b : StatusKind) (f : Expr) → ◌≡◌ {A = Result Stated Refusal} (Ok (alone a)) (Ok (stated b f)) → ⊥
alone≢stated a b f h = let z : ◌≡◌ {A = ℕ} 0 1 = cc in absurd (omega arith)

-- what follows a status word is an expression that a text reads as
pub status_states : (s : List ℕ) (k : StatusKind) (e : Expr) → status_reading s ≡ Ok (stated k e) → States s k e
unfolding status_reading of_words after_word map_ok then
status_states s k e h =
    let a = admitted_ok text_limit s (of_words (words (decode s))) (stated k e) h in
    split (words (decode s)) refl a.0.0 a.0.1 a.1
  where
    read : (w v : List ℕ) (ws : List (List ℕ)) (j : StatusKind) → words (decode s) ≡ w ∷ v ∷ ws → kind_of_word (encode w) ≡ Ok j → leb (length s) text_limit ≡ true → is_utf8 s ≡ true
        → (r : Result Expr Refusal) → expression (joined (v ∷ ws)) ≡ r → map_ok (stated j) r ≡ Ok (stated k e) → States s k e
    read w v ws j q m l u (Ok f) i g =
        let same = stated_same j k f e g in
        record { word = w; rest = v ∷ ws; split = q; known = m ∙ ap Ok same.0; reads = rest-reading s w (v ∷ ws) l u q ∙ i ∙ ap Ok same.1 }
    read w v ws j q m l u (Err n) i g = absurd (err≢ok g)

    known : (w : List ℕ) (ws : List (List ℕ)) → words (decode s) ≡ w ∷ ws → leb (length s) text_limit ≡ true → is_utf8 s ≡ true
        → (o : Result StatusKind Refusal) → kind_of_word (encode w) ≡ o → then o (λ j. after_word j ws) ≡ Ok (stated k e) → States s k e
    known w ws q l u (Err n) m g = absurd (err≢ok g)
    known w [] q l u (Ok j) m g = absurd (alone≢stated j k e g)
    known w (v ∷ ws) q l u (Ok j) m g = read w v ws j q m l u (expression (joined (v ∷ ws))) refl g

    split : (ws : List (List ℕ)) → words (decode s) ≡ ws → leb (length s) text_limit ≡ true → is_utf8 s ≡ true → of_words ws ≡ Ok (stated k e) → States s k e
    split [] q l u g = absurd (err≢ok g)
    split (w ∷ ws) q l u g = known w ws q l u (kind_of_word (encode w)) refl g
