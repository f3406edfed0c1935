use native.Mathlib.Omega.{arith}
use Rattle.line.proofs.Texts.{letters, one_letter, other_letter}
use Rattle.line.proofs.answer_byte.Goals as goal

pub returns-in-102 : goal.returns-in-102
returns-in-102 c = one_letter _ _ _ c.in-102.is letters.0

pub returns-in-117 : goal.returns-in-117
returns-in-117 c = one_letter _ _ _ c.in-117.is letters.1.0

pub returns-in-116 : goal.returns-in-116
returns-in-116 c = one_letter _ _ _ c.in-116.is letters.1.1.0

pub returns-in-110 : goal.returns-in-110
returns-in-110 c = one_letter _ _ _ c.in-110.is letters.1.1.1.0

pub returns-in-101 : goal.returns-in-101
returns-in-101 c = one_letter _ _ _ c.in-101.is letters.1.1.1.1

pub returns-in_default : goal.returns-in_default
returns-in_default c = other_letter _ (λ e. omega arith) (λ e. omega arith) (λ e. omega arith) (λ e. omega arith) (λ e. omega arith)
