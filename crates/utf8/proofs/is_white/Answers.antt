use native.Mathlib.Omega.{arith}
use mathlib.Core.Path.{sym}
use mathlib.Core.Logic.{inl, inr}
use Rattle.utf8.proofs.White.{no_white, one_of1, one_of2, white_in}
use Rattle.utf8.proofs.is_white.Goals as goal

pub returns-in-32 : goal.returns-in-32
returns-in-32 c = sym (one_of1 c.args.code c.in-32.is)

pub returns-in-8239 : goal.returns-in-8239
returns-in-8239 c = sym (one_of2 c.args.code c.in-8239.is)

pub returns-in-9-to-13 : goal.returns-in-9-to-13
returns-in-9-to-13 c = sym (white_in 0 c.args.code (omega arith) (omega arith))

pub returns-in-8192-to-8202 : goal.returns-in-8192-to-8202
returns-in-8192-to-8202 c = sym (white_in 5 c.args.code (omega arith) (omega arith))

pub returns-in-8232-to-8233 : goal.returns-in-8232-to-8233
returns-in-8232-to-8233 c = sym (white_in 6 c.args.code (omega arith) (omega arith))

pub returns-in_default : goal.returns-in_default
returns-in_default c = sym
    (no_white c.args.code (inl (omega arith)) (inl (omega arith)) (inl (omega arith)) (λ e. omega arith) (λ e. omega arith))

pub returns-in_default-2 : goal.returns-in_default-2
returns-in_default-2 c = sym
    (no_white c.args.code (inr (omega arith)) (inl (omega arith)) (inl (omega arith)) (λ e. omega arith) (λ e. omega arith))

pub returns-in_default-3 : goal.returns-in_default-3
returns-in_default-3 c = sym
    (no_white c.args.code (inr (omega arith)) (inr (omega arith)) (inl (omega arith)) (λ e. omega arith) (λ e. omega arith))

pub returns-in_default-4 : goal.returns-in_default-4
returns-in_default-4 c = sym
    (no_white c.args.code (inr (omega arith)) (inr (omega arith)) (inr (omega arith)) (λ e. omega arith) (λ e. omega arith))
