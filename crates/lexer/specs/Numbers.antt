-- The kinds of tokens as numbers. Assumes nothing.
use Rattle.std.specs.Prelude.{◌≡◌, refl, ℕ, zero, suc, ◌<◌}
use Rattle.std.proofs.Common.{arith}
use Rattle.lexer.specs.declared.TokenKind.{TokenKind}
use Rattle.lexer.specs.declared.TokenKind.TheVariants.{Citation, And, Or, Xor, Opening, Closing}

-- the kind for which a number stands: a citation and the operators have those of their node rows, and what is no kind closes
unfoldable pub token_numbered : ℕ → TokenKind
token_numbered zero = Citation
token_numbered (suc zero) = Closing
token_numbered (suc (suc zero)) = And
token_numbered (suc (suc (suc zero))) = Or
token_numbered (suc (suc (suc (suc zero)))) = Xor
token_numbered (suc (suc (suc (suc (suc zero))))) = Opening
token_numbered (suc (suc (suc (suc (suc (suc n)))))) = Closing

-- what is over 5 closes
pub token_numbered_over : (n : ℕ) → 5 < n → token_numbered n ≡ Closing
unfolding token_numbered
token_numbered_over zero h = absurd (omega arith)
token_numbered_over (suc zero) h = absurd (omega arith)
token_numbered_over (suc (suc zero)) h = absurd (omega arith)
token_numbered_over (suc (suc (suc zero))) h = absurd (omega arith)
token_numbered_over (suc (suc (suc (suc zero)))) h = absurd (omega arith)
token_numbered_over (suc (suc (suc (suc (suc zero))))) h = absurd (omega arith)
token_numbered_over (suc (suc (suc (suc (suc (suc n)))))) h = refl

-- and so does 1
pub token_numbered_one : (n : ℕ) → n ≡ 1 → token_numbered n ≡ Closing
unfolding token_numbered
token_numbered_one n h = rw h

-- the number that stands for a kind
unfoldable pub token_number : TokenKind → ℕ
token_number Citation = 0
token_number And = 2
token_number Or = 3
token_number Xor = 4
token_number Opening = 5
token_number Closing = 6

-- a kind's number stands for it
pub token_numbered-back : (k : TokenKind) → token_numbered (token_number k) ≡ k
unfolding token_numbered token_number
token_numbered-back Citation = refl
token_numbered-back And = refl
token_numbered-back Or = refl
token_numbered-back Xor = refl
token_numbered-back Opening = refl
token_numbered-back Closing = refl
