use native.Mathlib.Omega.{arith}
use Rattle.utf8.proofs.Rows.{row_00, row_80, row_C2, row_E0, row_E1, row_ED, row_EE, row_F0, row_F1, row_F4, row_F5}
use Rattle.utf8.proofs.lead_of.Goals as goal

pub returns-then-b-lt128 : goal.returns-then-b-lt128
returns-then-b-lt128 c = let e = row_00 c.args.b (omega arith) in cc

pub returns-then-b-lt194 : goal.returns-then-b-lt194
returns-then-b-lt194 c = let e = row_80 c.args.b (omega arith) (omega arith) in cc

pub returns-then-b-lt224 : goal.returns-then-b-lt224
returns-then-b-lt224 c = let e = row_C2 c.args.b (omega arith) (omega arith) in cc

pub returns-then-b-lt225 : goal.returns-then-b-lt225
returns-then-b-lt225 c = let e = row_E0 c.args.b (omega arith) (omega arith) in cc

pub returns-then-b-lt237 : goal.returns-then-b-lt237
returns-then-b-lt237 c = let e = row_E1 c.args.b (omega arith) (omega arith) in cc

pub returns-then-b-lt238 : goal.returns-then-b-lt238
returns-then-b-lt238 c = let e = row_ED c.args.b (omega arith) (omega arith) in cc

pub returns-then-b-lt240 : goal.returns-then-b-lt240
returns-then-b-lt240 c = let e = row_EE c.args.b (omega arith) (omega arith) in cc

pub returns-then-b-lt241 : goal.returns-then-b-lt241
returns-then-b-lt241 c = let e = row_F0 c.args.b (omega arith) (omega arith) in cc

pub returns-then-b-lt244 : goal.returns-then-b-lt244
returns-then-b-lt244 c = let e = row_F1 c.args.b (omega arith) (omega arith) in cc

pub returns-then-b-lt245 : goal.returns-then-b-lt245
returns-then-b-lt245 c = let e = row_F4 c.args.b (omega arith) (omega arith) in cc

pub returns : goal.returns
returns c = let e = row_F5 c.args.b (omega arith) in cc
