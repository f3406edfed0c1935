-- The printed bytes are UTF-8 and are lexed as the printed tokens. Assumes nothing.
use Rattle.std.specs.Prelude.{◌≡◌, refl, List, [], ◌∷◌, ◌++◌, true, false, ℕ, Result, Ok, Err}
use Rattle.std.proofs.Common.{ap, ◌∙◌, append_assoc, append-nil}
use Rattle.refusal.specs.declared.Refusal.{Refusal}
use Rattle.refusal.specs.Result.{map_ok}
use Rattle.refusal.specs.declared.Refusal.TheVariants.{Unterminated}
use Rattle.utf8.specs.Utf8.{is_utf8, decode, encode, encode_char, lead_of}
use Rattle.utf8.specs.White.{is_white}
use Rattle.utf8.proofs.Laws.{utf8_append, decode_append, utf8_nil, decode_nil}
use Rattle.grammar.specs.Expr.{Op, And, Or, Xor, Expr, citations}
use Rattle.grammar.specs.Lex.{Tok, cited, op, opening, closing, cite_begin, cite_end, blank, symbol, part, outer, inner, lex, inside}
use Rattle.grammar.specs.Citable.{holds, citable, AllCitable}
use Rattle.grammar.proofs.Citable.{holds_none, citable_says}
use Rattle.grammar.specs.Print.{in_tokens, in_bytes, sign_bytes, print, printed}
use Rattle.grammar.proofs.Print.{print_related}
use Rattle.grammar.specs.LexPrint.{before, Lexes}

before_none : (r : Result (List Tok) Refusal) → r ≡ before [] r
unfolding before map_ok
before_none (Ok ts) = refl
before_none (Err k) = refl

before-before : (a b : List Tok) (r : Result (List Tok) Refusal) → before a (before b r) ≡ before (a ++ b) r
unfolding before map_ok
before-before a b (Ok us) = rw append_assoc
before-before a b (Err k) = refl

-- a citation goes on to its `]`
pub inside_read : (t u cs : List ℕ) → holds cite_end u ≡ false → inside t (u ++ (cite_end ∷ cs)) ≡ inside (t ++ u) (cite_end ∷ cs)
unfolding inside inner holds
inside_read t [] cs h = rw append-nil
inside_read t (c ∷ u) cs h =
    let r = holds_none cite_end c u h in rw r.0 (inside_read (t ++ (c ∷ [])) u cs r.1 ∙ rw append_assoc)

-- a citation goes on to the end, if no `]` follows
pub inside_open : (t u : List ℕ) → holds cite_end u ≡ false → inside t u ≡ Err Unterminated
unfolding inside inner holds
inside_open t [] h = refl
inside_open t (c ∷ u) h = let r = holds_none cite_end c u h in rw r.0 (inside_open (t ++ (c ∷ [])) u r.1)

lexes_nil : Lexes [] []
lexes_nil = record { valid = utf8_nil; goes = λ cs. rw decode_nil (before_none (lex cs)) }

lexes_append : (p q : List ℕ) (us vs : List Tok) → Lexes p us → Lexes q vs → Lexes (p ++ q) (us ++ vs)
lexes_append p q us vs h k = record {
  valid = utf8_append p q h.valid ∙ k.valid;
  goes = λ cs. rw (decode_append p q h.valid, append_assoc (decode p) (decode q) cs, h.goes (decode q ++ cs), k.goes cs) (before-before us vs (lex cs));
}

lex_gap : Lexes in_bytes.gap []
unfolding is_utf8 decode lead_of lex part outer inner symbol is_white
lex_gap = record { valid = refl; goes = λ cs. before_none (lex cs) }

lex_left : Lexes in_bytes.left (opening ∷ [])
unfolding is_utf8 decode lead_of lex part outer inner before
lex_left = record { valid = refl; goes = λ cs. refl }

lex_right : Lexes in_bytes.right (closing ∷ [])
unfolding is_utf8 decode lead_of lex part outer inner before
lex_right = record { valid = refl; goes = λ cs. refl }

lex_sign : (o : Op) → Lexes (sign_bytes o) (op o ∷ [])
unfolding sign_bytes is_utf8 decode lead_of encode_char lex part outer inner symbol before is_white
lex_sign And = record { valid = refl; goes = λ cs. refl }
lex_sign Or = record { valid = refl; goes = λ cs. refl }
lex_sign Xor = record { valid = refl; goes = λ cs. refl }

ends_valid : is_utf8 (cite_end ∷ []) ≡ true
unfolding is_utf8 lead_of
ends_valid = refl

begins_valid : is_utf8 (cite_begin ∷ []) ≡ true
unfolding is_utf8 lead_of
begins_valid = refl

begins_decoded : decode (cite_begin ∷ []) ≡ cite_begin ∷ []
unfolding decode lead_of
begins_decoded = refl

ends_decoded : decode (cite_end ∷ []) ≡ cite_end ∷ []
unfolding decode lead_of
ends_decoded = refl

word_decoded : (t : List ℕ) → is_utf8 t ≡ true → decode (in_bytes.word t) ≡ cite_begin ∷ (decode t ++ (cite_end ∷ []))
word_decoded t h =
    decode_append (cite_begin ∷ []) (t ++ (cite_end ∷ [])) begins_valid
    ∙ rw (begins_decoded, decode_append t (cite_end ∷ []) h, ends_decoded)

word_lexed : (t cs : List ℕ) → blank t ≡ false → inside t (cite_end ∷ cs) ≡ before (cited (encode t) ∷ []) (lex cs)
unfolding inside inner before
word_lexed t cs h = rw h

-- `[` begins a citation
pub word_begun : (cs : List ℕ) → lex (cite_begin ∷ cs) ≡ inside [] cs
unfolding lex part outer
word_begun cs = refl

lex_word : (t : List ℕ) → citable t ≡ true → Lexes (in_bytes.word t) (cited t ∷ [])
lex_word t h =
    let c = citable_says t h in
    record {
      valid = utf8_append (cite_begin ∷ []) (t ++ (cite_end ∷ [])) begins_valid ∙ utf8_append t (cite_end ∷ []) c.valid ∙ ends_valid;
      goes = λ cs.
          ap (λ x. lex (x ++ cs)) (word_decoded t c.valid)
          ∙ ap (λ x. lex (cite_begin ∷ x)) (append_assoc (decode t) (cite_end ∷ []) cs)
          ∙ word_begun (decode t ++ (cite_end ∷ cs))
          ∙ inside_read [] (decode t) cs c.unclosed
          ∙ word_lexed (decode t) cs c.written
          ∙ ap (λ x. before (cited x ∷ []) (lex cs)) c.back;
    }

-- the print of an expression with citable texts is UTF-8, and is lexed as its printed tokens
pub print_lexes : (e : Expr) → AllCitable (citations e) → Lexes (printed e) (print in_tokens e)
print_lexes = print_related in_bytes in_tokens Lexes record {
  nil = lexes_nil;
  both = lexes_append;
  word = lex_word;
  gap = lex_gap;
  sign = lex_sign;
  left = lex_left;
  right = lex_right;
}

-- the whole print is lexed as its printed tokens
pub print_lexed : (e : Expr) → AllCitable (citations e) → lex (decode (printed e)) ≡ Ok (print in_tokens e)
unfolding before map_ok lex
print_lexed e h = rw (append-nil (decode (printed e)), append-nil (print in_tokens e)) at ((print_lexes e h).goes [])
