-- The bytes of signs. Assumes nothing.
use mathlib.Core.Path.{◌≡◌, refl}
use mathlib.Core.List.{[], ◌∷◌}
use Rattle.utf8.specs.Utf8.{encode_char}
use Rattle.grammar.specs.Expr.{And, Or, Xor}
use Rattle.grammar.specs.Lex.{symbol}
use Rattle.grammar.specs.Print.{in_bytes, sign_bytes}

-- the bytes of ` ∧ `
pub and_sign : in_bytes.sign And ≡ 0x20 ∷ 0xE2 ∷ 0x88 ∷ 0xA7 ∷ 0x20 ∷ []
unfolding sign_bytes encode_char symbol
and_sign = refl

-- the bytes of ` ∨ `
pub or_sign : in_bytes.sign Or ≡ 0x20 ∷ 0xE2 ∷ 0x88 ∷ 0xA8 ∷ 0x20 ∷ []
unfolding sign_bytes encode_char symbol
or_sign = refl

-- the bytes of ` ⊻ `
pub xor_sign : in_bytes.sign Xor ≡ 0x20 ∷ 0xE2 ∷ 0x8A ∷ 0xBB ∷ 0x20 ∷ []
unfolding sign_bytes encode_char symbol
xor_sign = refl
