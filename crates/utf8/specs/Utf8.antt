-- UTF-8 as the Unicode Standard's table 3-7 has it: the first byte says how many bytes follow, between which bytes the second
-- one stands, and what the first gives to the code. Every later byte stands between 80 and BF and gives six bits. Assumes nothing.
use Rattle.std.specs.Prelude.{ℕ, zero, suc, ◌+◌, ◌-◌, ◌*◌, ◌/◌, ◌%◌, ◌<◌, ◌≤◌, ◌⊎◌, List, [], ◌∷◌, ◌++◌, Bool, true, false, cond, ◌&&◌, length, drop, ltb, leb, Option, Some, None, Result, Ok, Err}
use Rattle.utf8.specs.declared.Step.{Step}
use Rattle.utf8.specs.declared.Step.TheVariants.{Char, Bad, End}

-- a row of table 3-7: more bytes, the second one's range, the first one's part of the code; none of a byte that begins no character
abbrev pub Lead : Type 0
Lead = Option (ℕ × ℕ × ℕ × ℕ)

-- table 3-7, by first byte
unfoldable pub lead_of : ℕ → Lead
lead_of b =
    cond (ltb b 0x80) (Some (0, 0x80, 0xBF, b))  -- 00..7F
    (cond (ltb b 0xC2) None  -- 80..C1
    (cond (ltb b 0xE0) (Some (1, 0x80, 0xBF, b - 0xC0))  -- C2..DF
    (cond (ltb b 0xE1) (Some (2, 0xA0, 0xBF, 0))  -- E0
    (cond (ltb b 0xED) (Some (2, 0x80, 0xBF, b - 0xE0))  -- E1..EC
    (cond (ltb b 0xEE) (Some (2, 0x80, 0x9F, 13))  -- ED
    (cond (ltb b 0xF0) (Some (2, 0x80, 0xBF, b - 0xE0))  -- EE..EF
    (cond (ltb b 0xF1) (Some (3, 0x90, 0xBF, 0))  -- F0
    (cond (ltb b 0xF4) (Some (3, 0x80, 0xBF, b - 0xF0))  -- F1..F3
    (cond (ltb b 0xF5) (Some (3, 0x80, 0x8F, 4))  -- F4
    None)))))))))  -- F5..FF

-- a byte that stands in a range, both ends included
abbrev pub within : ℕ → ℕ → ℕ → Bool
within low high b = leb low b && leb b high

-- the code that the next bytes complete, where `more` of them are due and the first of those stands between low and high
abbrev pub code_of : (more low high code : ℕ) → List ℕ → Option ℕ
code_of zero low high code s = Some code
code_of (suc k) low high code [] = None
code_of (suc k) low high code (b ∷ s) =
    cond (within low high b) (code_of k 0x80 0xBF (code * 64 + (b - 0x80)) s) None

-- a completed code as a character of `more` bytes and its first
abbrev pub char_of : ℕ → Option ℕ → Step
char_of more None = Bad
char_of more (Some c) = Char c (more + 1)

-- the character of a first byte's row and the bytes after that byte
abbrev pub with_lead : Lead → List ℕ → Step
with_lead None s = Bad
with_lead (Some (more, low, high, code)) s = char_of more (code_of more low high code s)

-- the character that a list of bytes begins with
abbrev pub step_of : List ℕ → Step
step_of [] = End
step_of (a ∷ s) = with_lead (lead_of a) s

-- the character at a place of a list of bytes
abbrev pub step_at : List ℕ → ℕ → Step
step_at s at = step_of (drop at s)

-- where a reader stands that goes byte by byte: between characters, inside one with k + 1 bytes due, or past an error
pub data Place : Type 0 where
  between : Place
  inside : (k low high code : ℕ) → Place
  wrong : Place

-- the place from which `more` bytes are due
abbrev pub due : (more low high code : ℕ) → Place
due zero low high code = between
due (suc k) low high code = inside k low high code

-- the place after a first byte
abbrev pub after : Lead → Place
after None = wrong
after (Some (more, low, high, code)) = due more low high code

-- the place after one byte more
abbrev pub next : Place → ℕ → Place
next between b = after (lead_of b)
next (inside k low high code) b = cond (within low high b) (due k 0x80 0xBF (code * 64 + (b - 0x80))) wrong
next wrong b = wrong

-- the place after a list of bytes
abbrev pub run : Place → List ℕ → Place
run p [] = p
run p (b ∷ s) = run (next p b) s

-- a text may end here
abbrev pub is_between : Place → Bool
is_between between = true
is_between (inside k low high code) = false
is_between wrong = false

-- every byte is ASCII
abbrev pub all_ascii : List ℕ → Bool
all_ascii [] = true
all_ascii (b ∷ s) = ltb b 0x80 && all_ascii s

-- the bytes are the UTF-8 of some text
unfoldable pub is_utf8 : List ℕ → Bool
is_utf8 s = is_between (run between s)

-- the code, if no byte is due any more
abbrev pub codes1 : (more code : ℕ) → List ℕ
codes1 zero code = code ∷ []
codes1 (suc k) code = []

-- the code that a first byte completes
abbrev pub lead_codes : Lead → List ℕ
lead_codes None = []
lead_codes (Some (more, low, high, code)) = codes1 more code

-- the code that a byte completes
abbrev pub emit : Place → ℕ → List ℕ
emit between b = lead_codes (lead_of b)
emit (inside k low high code) b = cond (within low high b) (codes1 k (code * 64 + (b - 0x80))) []
emit wrong b = []

-- the codes that a list of bytes completes, in order
abbrev pub decode_from : Place → List ℕ → List ℕ
decode_from p [] = []
decode_from p (b ∷ s) = emit p b ++ decode_from (next p b) s

-- the codes of the characters up to the end, or to the first byte that fits None
unfoldable pub decode : List ℕ → List ℕ
decode s = decode_from between s

-- how many characters
unfoldable pub char_count : List ℕ → ℕ
char_count s = length (decode s)

-- how many characters: of a whole text, or up to the first byte that fits none
abbrev pub scanned : List ℕ → Result ℕ ℕ
scanned s = cond (is_utf8 s) (Ok (char_count s)) (Err (char_count s))

-- the bytes of a code
unfoldable pub encode_char : ℕ → List ℕ
encode_char c =
    cond (ltb c 0x80) (c ∷ [])
    (cond (ltb c 0x800) ((0xC0 + c / 64) ∷ (0x80 + c % 64) ∷ [])
    (cond (ltb c 0x10000) ((0xE0 + c / 4096) ∷ (0x80 + c / 64 % 64) ∷ (0x80 + c % 64) ∷ [])
    ((0xF0 + c / 262144) ∷ (0x80 + c / 4096 % 64) ∷ (0x80 + c / 64 % 64) ∷ (0x80 + c % 64) ∷ [])))

-- the bytes of a text
abbrev pub encode : List ℕ → List ℕ
encode [] = []
encode (c ∷ cs) = encode_char c ++ encode cs

-- a Unicode scalar value: no surrogate
abbrev pub Scalar : ℕ → Type 0
Scalar c = (c < 0xD800) ⊎ ((0xE000 ≤ c) × (c < 0x110000))

-- a text of Unicode scalar values
abbrev pub Scalars : List ℕ → Type 0
Scalars [] = Unit {0}
Scalars (c ∷ cs) = Scalar c × Scalars cs
