use native.Mathlib.Omega.{arith}
use Prim.Native.Nat.{◌+◌}
use mathlib.Core.Path.{sym, ap, ◌∙◌, subst}
use lib.ListN.{drop, get_or, drop_of_length-le}
use Rattle.utf8.specs.Utf8.{Lead, with_lead}
use Rattle.utf8.proofs.Laws.{Small, lead_small, step_lead}
use Rattle.utf8.proofs.step_at.Goals as goal

pub returns-then-s-at : goal.returns-then-s-at
returns-then-s-at c = let a = c.args in
    rw (drop_of_length-le a.s.now c.if-s-at.true)

pub rest-requires : goal.rest-requires
rest-requires c = let a = c.args in
    let e = sym c.lead_of.ensures ∙ c.in-Some.is in
    let h = subst Small e (lead_small (get_or a.s.now a.at 0)) in
    (omega arith, (h.0, (h.1, (h.2, h.3))))

pub returns-in-None : goal.returns-in-None
returns-in-None c = let a = c.args in
    sym
    (step_lead a.s.now a.at (omega arith) ∙ ap (λ (l : Lead). with_lead l (drop (a.at + 1) a.s.now)) (sym c.lead_of.ensures ∙ c.in-None.is))

pub returns-in-Some : goal.returns-in-Some
returns-in-Some c = let a = c.args in
    c.rest.ensures
    ∙ sym
    (step_lead a.s.now a.at (omega arith)
    ∙ ap (λ (l : Lead). with_lead l (drop (a.at + 1) a.s.now)) (sym c.lead_of.ensures ∙ c.in-Some.is))
