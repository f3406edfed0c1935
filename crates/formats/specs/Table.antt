-- The 47 format conditions, each with its rule, looked up by their texts byte for byte (docs/SEMANTICS.md, 'Format conditions'). Assumes nothing.
use Rattle.std.specs.Prelude.{ℕ, ◌+◌, ◌-◌, ◌*◌, ◌≡◌, refl, List, [], ◌∷◌, ◌++◌, map, length, replicate, Bool, true, false, cond, not, ◌&&◌, eqb, Option, Some, None, is_some}
use Prim.Native.String.{String}
use Rattle.text.specs.Quoted.{ascii}
use Rattle.text.specs.Bytes.{same}
use Rattle.text.specs.Digits.{is_digit}
use Rattle.formats.specs.declared.FormatVerdict.{FormatVerdict}
use Rattle.formats.specs.declared.FormatVerdict.TheVariants.{Unregistered}
use Rattle.formats.specs.declared.Relation.TheVariants.{AtLeast, AtMost, GreaterThan, LessThan, Exactly, NotExactly}
use Rattle.formats.specs.Rules.{Rule, bound, any_number, whole_between, fraction_up_to, integer_up_to, groups_of, length_is, length_up_to, field_is, hhmm_in, unoc_upper, zzz_utc, email_shape, phone_shape, boundary_at, boundary_of, judged}

-- conditions with their texts and rules
abbrev pub Rows : Type 0
Rows = List (List ℕ × Rule)

-- the condition with this text has this rule
abbrev pub row : String → Rule → List ℕ × Rule
row t r = (ascii t, r)

-- numbers against a bound
abbrev pub bound_rules : Rows
bound_rules =
    row "902" (bound AtLeast false 0)
    ∷ row "903" (bound Exactly false 1)
    ∷ row "908" (bound AtLeast false 1)
    ∷ row "909" (bound AtLeast false 0)
    ∷ row "910" any_number
    ∷ row "913" (whole_between 1 99999)
    ∷ row "914" (bound GreaterThan false 0)
    ∷ row "915" (bound NotExactly false 1)
    ∷ row "926" (bound Exactly false 0)
    ∷ row "927" (bound Exactly true 1)
    ∷ row "929" (bound Exactly false 1000)
    ∷ row "938" (bound AtMost false 10)
    ∷ row "955" (bound LessThan false 100)
    ∷ row "963" (bound AtMost false 100)
    ∷ row "968" (bound AtMost false 0)
    ∷ row "969" (bound AtMost false 1)
    ∷ []

-- digits after and before the point
abbrev pub digit_rules : Rows
digit_rules =
    row "906" (fraction_up_to 3)
    ∷ row "907" (fraction_up_to 4)
    ∷ row "912" (fraction_up_to 6)
    ∷ row "925" (fraction_up_to 5)
    ∷ row "930" (fraction_up_to 2)
    ∷ row "937" (fraction_up_to 0)
    ∷ row "946" (fraction_up_to 11)
    ∷ row "917" (integer_up_to 4)
    ∷ row "962" (integer_up_to 6)
    ∷ []

-- digit groups, lengths and other shapes
abbrev pub shape_rules : Rows
shape_rules =
    row "942" (groups_of (1 ∷ 2 ∷ 1 ∷ 3 ∷ []))
    ∷ row "943" (groups_of (1 ∷ 2 ∷ 1 ∷ []))
    ∷ row "948" (groups_of (1 ∷ 2 ∷ 1 ∷ 8 ∷ 2 ∷ []))
    ∷ row "949" (groups_of (1 ∷ 2 ∷ 1 ∷ 8 ∷ 2 ∷ 1 ∷ []))
    ∷ row "957" (groups_of (1 ∷ 2 ∷ 1 ∷ 8 ∷ []))
    ∷ row "959" (groups_of (13 ∷ 2 ∷ []))
    ∷ row "904" (length_is 16)
    ∷ row "905" (length_up_to 3)
    ∷ row "918" unoc_upper
    ∷ row "931" zzz_utc
    ∷ row "939" email_shape
    ∷ row "940" phone_shape
    ∷ []

-- times and day boundaries
abbrev pub time_rules : Rows
time_rules =
    row "932" (field_is 8 (ascii "2200"))
    ∷ row "933" (field_is 8 (ascii "2300"))
    ∷ row "934" (field_is 8 (ascii "0400"))
    ∷ row "935" (field_is 8 (ascii "0500"))
    ∷ row "947" (field_is 4 (ascii "12312300"))
    ∷ row "964" (hhmm_in AtLeast 0)
    ∷ row "965" (hhmm_in AtMost 2359)
    ∷ row "UB1" (boundary_at (ascii "2200") (ascii "2300"))
    ∷ row "UB2" (boundary_at (ascii "0400") (ascii "0500"))
    ∷ row "UB3" (boundary_of (ascii "2200") (ascii "2300") (ascii "0400") (ascii "0500"))
    ∷ []

-- all conditions that are judged here
abbrev pub rules : Rows
rules = bound_rules ++ (digit_rules ++ (shape_rules ++ time_rules))

-- they are 47
pub rules_47 : length rules ≡ 47
rules_47 = refl

-- the rule of the condition with this text
unfoldable pub rule_of : Rows → List ℕ → Option Rule
rule_of [] t = None
rule_of (r ∷ rs) t = cond (same r.0 t) (Some r.1) (rule_of rs t)

-- the verdict by a rule, or none
abbrev pub judged_by : Option Rule → List ℕ → FormatVerdict
judged_by None v = Unregistered
judged_by (Some r) v = judged r v

-- the verdict of the condition with this text on a value
unfoldable pub verdict : List ℕ → List ℕ → FormatVerdict
verdict t v = judged_by (rule_of rules t) v

-- the condition with this text has an evaluator
unfoldable pub is_registered : List ℕ → Bool
is_registered t = is_some (rule_of rules t)

-- no text stands twice
abbrev pub distinct : Rows → Bool
distinct [] = true
distinct (r ∷ rs) = not (is_some (rule_of rs r.0)) && distinct rs

-- the 47 texts are all different
pub rules-distinct : distinct rules ≡ true
unfolding rule_of
rules-distinct = refl

-- so each condition of the table has the rule of its row
pub rules_found : map (λ r. rule_of rules r.0) rules ≡ map (λ r. Some r.1) rules
unfolding rule_of
rules_found = refl

-- the six conditions on identifiers, which are not judged here
abbrev pub identifiers : List (List ℕ)
identifiers = ascii "922" ∷ ascii "950" ∷ ascii "951" ∷ ascii "953" ∷ ascii "960" ∷ ascii "961" ∷ []

-- texts that differ from a condition's by a zero, a sign, a blank or the digit
abbrev pub near_misses : List (List ℕ)
near_misses = ascii "0902" ∷ ascii "+902" ∷ ascii " 902" ∷ ascii "UB4" ∷ ascii "UB01" ∷ []

-- none of these has a rule
pub no_rule : map (rule_of rules) (identifiers ++ near_misses) ≡ replicate 11 None
unfolding rule_of
no_rule = refl

-- so they are Unregistered, whatever the value
pub none_registered : (v : List ℕ) → map (λ t. verdict t v) (identifiers ++ near_misses) ≡ replicate 11 Unregistered
unfolding rule_of verdict
none_registered v = refl

-- the number of a text of three digits or of UB and a digit; the code looks conditions up by it
abbrev pub id_of3 : ℕ → ℕ → ℕ → Option ℕ
id_of3 a b c =
    cond (is_digit c)
    (cond (is_digit a)
    (cond (is_digit b) (Some ((a - 48) * 100 + (b - 48) * 10 + (c - 48))) None)
    (cond (eqb a 85 && eqb b 66) (Some (1000 + (c - 48))) None))
    None

-- the same of a text
unfoldable pub id_of : List ℕ → Option ℕ
id_of [] = None
id_of (a ∷ []) = None
id_of (a ∷ b ∷ []) = None
id_of (a ∷ b ∷ c ∷ []) = id_of3 a b c
id_of (a ∷ b ∷ c ∷ d ∷ s) = None

-- two texts have the same number
abbrev pub same_id : Option ℕ → Option ℕ → Bool
same_id (Some n) (Some m) = eqb n m
same_id (Some n) None = false
same_id None m = false

-- the rule of the condition with this number
unfoldable pub rule_at : Rows → Option ℕ → Option Rule
rule_at [] id = None
rule_at (r ∷ rs) id = cond (same_id id (id_of r.0)) (Some r.1) (rule_at rs id)

-- the verdict of the condition with this number, among these, on a value
unfoldable pub judged_in : Rows → ℕ → List ℕ → FormatVerdict
judged_in rows n v = judged_by (rule_at rows (Some n)) v
