use Rattle.std.specs.Prelude.{Ok}
use borrow.Author.Tests.{le-leb, lt-leb}
use mathlib.Core.Path.{sym, ◌∙◌}
use lib.ListN.{length}
use Rattle.utf8.proofs.Limits.{too_long, not_utf8, fits}
use Rattle.utf8.proofs.admit.Goals as goal

pub returns-then-most-s : goal.returns-then-most-s
returns-then-most-s c = let a = c.args in
    sym (too_long a.most a.s.now (Ok tt) (lt-leb (length a.s.now) a.most c.if-most-s.true))

pub returns-then-not-is_utf8 : goal.returns-then-not-is_utf8
returns-then-not-is_utf8 c = let a = c.args in
    sym (not_utf8 a.most a.s.now (Ok tt) (le-leb (length a.s.now) a.most c.if-most-s.false) (sym c.is_utf8.ensures ∙ c.if-not-is_utf8.true))

pub returns : goal.returns
returns c = let a = c.args in
    sym (fits a.most a.s.now (Ok tt) (le-leb (length a.s.now) a.most c.if-most-s.false, sym c.is_utf8.ensures ∙ c.if-not-is_utf8.false))
