-- UTF-8 in three sentences. Assumes nothing.
use Prim.Native.Nat.{ℕ, ◌<◌}
use mathlib.Core.Path.{◌≡◌, sym, ap, ◌∙◌}
use mathlib.Core.Bool.{true}
use mathlib.Core.List.{List, ◌∷◌, ◌++◌}
use Rattle.utf8.specs.Utf8.{is_utf8, decode, encode, Scalars}
use Rattle.utf8.proofs.Laws.{utf8_append, decode_append}
use Rattle.utf8.proofs.Ascii.{ascii_cons, ascii_splits}
use Rattle.utf8.proofs.Encode.{encoded}
use Rattle.utf8.proofs.Sound.{utf8_sound}

-- bytes that encode scalar values
pub Encoding : List ℕ → Type 0
Encoding s = (cs : List ℕ) × Scalars cs × (encode cs ≡ s)

-- bytes are UTF-8 exactly if they are the encoding of scalar values
pub utf8_encoding : (s : List ℕ) → (is_utf8 s ≡ true → Encoding s) × (Encoding s → is_utf8 s ≡ true)
unfolding Encoding
utf8_encoding s = (
  λ h. (decode s, (utf8_sound s h).0, (utf8_sound s h).1),
  λ e. sym (ap is_utf8 e.2) ∙ (encoded e.0 e.1).0,
)

-- two texts joined are a text, of the characters of the one and then of the other
pub utf8_concat : (a b : List ℕ) → is_utf8 a ≡ true → is_utf8 b ≡ true → (is_utf8 (a ++ b) ≡ true) × (decode (a ++ b) ≡ decode a ++ decode b)
utf8_concat a b h k = (utf8_append a b h ∙ k, decode_append a b h)

-- a byte below 80 never lies inside a character: it is one, between the text before it and the text after it
pub ascii-boundary : (a : List ℕ) (b : ℕ) (s : List ℕ) → b < 0x80 → is_utf8 (a ++ b ∷ s) ≡ true → (is_utf8 a ≡ true) × (is_utf8 s ≡ true) × (decode (a ++ b ∷ s) ≡ decode a ++ b ∷ decode s)
ascii-boundary a b s h e =
    let p = ascii_splits a b s h e in
    (p.0, p.1, decode_append a (b ∷ s) p.0 ∙ ap (λ (l : List ℕ). decode a ++ l) (ascii_cons b s h).1)
