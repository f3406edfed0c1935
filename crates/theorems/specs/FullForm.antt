-- Day boundaries in full form only: UB1, UB2 and UB3 are Violated by every value that is not in full form. Assumes nothing.
use Rattle.std.specs.Prelude.{◌≡◌, refl, List, [], ◌∷◌, Bool, true, false, ℕ, map, replicate}
use Rattle.std.proofs.Common.{arith, sym, ◌∙◌}
use Rattle.text.specs.Quoted.{ascii}
use Rattle.utf8.specs.Utf8.{encode_char}
use Rattle.calendar.specs.Calendar.{month_days, is_date, is_time, last_sunday, is_mesz}
use Rattle.moment.specs.Moments.{is_dtm_303, is_full_form, moment_of, exists, of_season, day_boundary}
use Rattle.formats.specs.declared.FormatVerdict.{FormatVerdict}
use Rattle.formats.specs.declared.FormatVerdict.TheVariants.{Holds, Violated}
use Rattle.formats.specs.Rules.{judged}
use Rattle.formats.specs.Table.{rule_of, verdict}
use Rattle.grammar.specs.Quoted.{bytes}

-- the texts of the conditions on day boundaries
pub data Boundary : List ℕ → Type 0 where
  ub1 : Boundary (ascii "UB1")
  ub2 : Boundary (ascii "UB2")
  ub3 : Boundary (ascii "UB3")

-- a value that is not in full form violates each of them
pub others_violated : (t v : List ℕ) → Boundary t → is_full_form v ≡ false → verdict t v ≡ Violated
unfolding verdict rule_of judged day_boundary
others_violated t v ub1 h = rw h
others_violated t v ub2 h = rw h
others_violated t v ub3 h = rw h

-- so a value that holds one of them is in full form
pub held_full : (t v : List ℕ) → Boundary t → verdict t v ≡ Holds → is_full_form v ≡ true
held_full t v b h = go (is_full_form v) refl
  where
    go : (x : Bool) → is_full_form v ≡ x → x ≡ true
    go true e = refl
    go false e =
        let w : Violated ≡ Holds = sym (others_violated t v b e) ∙ h in
        let z : ◌≡◌ {A = ℕ} 0 1 = cc in
        absurd (omega arith)

-- the verdicts of the three on a value, in order
abbrev pub verdicts_of : List ℕ → List FormatVerdict
verdicts_of v = verdict (ascii "UB1") v ∷ verdict (ascii "UB2") v ∷ verdict (ascii "UB3") v ∷ []

-- a text between the digits and the end, a sign in the month, a sign in the year: while full form was not asked for, UB1 and UB3 held for
-- them; then 14 bytes, 16 bytes, another end, no end, and a character of two bytes
abbrev pub others : List (List ℕ)
others =
    ascii "202607012200draft+00"
    ∷ ascii "2026+7012200+00"
    ∷ ascii "-00002292300+00"
    ∷ ascii "20260701220+00"
    ∷ ascii "2026070122000+00"
    ∷ ascii "202607012200-00"
    ∷ ascii "202607012200"
    ∷ bytes "2026070122é+00"
    ∷ []

-- they are Violated
pub others_cases : map verdicts_of others ≡ replicate 8 (Violated ∷ Violated ∷ Violated ∷ [])
unfolding verdict rule_of judged day_boundary is_full_form is_dtm_303 encode_char
others_cases = refl

-- two of these moments in full form
abbrev pub full : List (List ℕ)
full = ascii "202607012200+00" ∷ ascii "000002292300+00" ∷ []

-- these hold
pub full_cases : map verdicts_of full ≡ replicate 2 (Holds ∷ Violated ∷ Holds ∷ [])
unfolding verdict rule_of judged day_boundary is_full_form is_dtm_303 exists moment_of of_season is_date is_time is_mesz last_sunday month_days
full_cases = refl
