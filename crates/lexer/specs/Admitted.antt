-- What is said of bytes that are no text. Assumes nothing.
use Rattle.std.specs.Prelude.{◌≡◌, ℕ, List, Result, Ok, Err}
use Rattle.refusal.specs.declared.Refusal.{Refusal}
use Rattle.utf8.specs.Limits.{text_limit, admitted}

-- the refusal with which a text is turned back: it is too long, or no UTF-8
abbrev pub NotAdmitted : List ℕ → Refusal → Type 0
NotAdmitted s why = ◌≡◌ {A = Result (Unit {0}) Refusal} (Err why) (admitted text_limit s (Ok tt))
