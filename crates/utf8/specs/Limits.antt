-- What is tested of every text and value before it is read: its length and its encoding (refusals 10 and 11). Assumes nothing.
use Rattle.std.specs.Prelude.{ℕ, List, length, leb, Result}
use Rattle.refusal.specs.declared.Refusal.{Refusal}
use Rattle.refusal.specs.Result.{unless}
use Rattle.refusal.specs.declared.Refusal.TheVariants.{TooLong, NotUtf8}
use Rattle.utf8.specs.Utf8.{is_utf8}

-- the longest text, in bytes
abbrev pub text_limit : ℕ
text_limit = 4400

-- the longest value, in bytes
abbrev pub value_limit : ℕ
value_limit = 1024

-- the answer r on bytes t, once t is short enough and UTF-8
unfoldable pub admitted : {A : Type 0} → ℕ → List ℕ → Result A Refusal → Result A Refusal
admitted most t r = unless (leb (length t) most) TooLong (unless (is_utf8 t) NotUtf8 r)
