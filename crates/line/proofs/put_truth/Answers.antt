use native.Mathlib.Omega.{arith}
use Rattle.line.proofs.Texts.{truth_names, named-truth}
use Rattle.line.proofs.put_truth.Goals as goal

pub returns-in-False : goal.returns-in-False
returns-in-False c = named-truth _ _ c.in-False.is truth_names.0 (omega arith) c.put_text.ensures

pub returns-in-Unknown : goal.returns-in-Unknown
returns-in-Unknown c = named-truth _ _ c.in-Unknown.is truth_names.1.0 (omega arith) c.put_text-in-Unknown.ensures

pub returns-in-True : goal.returns-in-True
returns-in-True c = named-truth _ _ c.in-True.is truth_names.1.1.0 (omega arith) c.put_text-in-True.ensures

pub returns-in-Neutral : goal.returns-in-Neutral
returns-in-Neutral c = named-truth _ _ c.in-Neutral.is truth_names.1.1.1 (omega arith) c.put_text-in-Neutral.ensures
