-- Plain bytes: a part of them is plain, and a text of them is citable unless it is empty. Assumes nothing.
use mathlib.Core.Path.{◌≡◌, refl, sym, ap, ◌∙◌}
use mathlib.Core.List.{List, [], ◌∷◌}
use mathlib.Core.Bool.{Bool, true, false, not, ◌&&◌, false≢true}
use Prim.Native.Nat.{ℕ, zero, suc, ◌+◌, ◌-◌, ◌≤◌, ◌<◌}
use native.Mathlib.Omega.{arith}
use native.Mathlib.Numerals.{add-one}
use lib.Dec.{eqb, leb}
use lib.ListN.{length, get_or, take, drop, length-drop, drop_of_length-le}
use lib.Seq.{drop-cons, drop-drop, take_all}
use borrow.Author.Tests.{eq-eqb, ne_eqb, leb-true}
use Rattle.laws.specs.Tests.{and_both}
use Rattle.utf8.specs.White.{is_white}
use Rattle.utf8.proofs.Ascii.{ascii_step}
use Rattle.utf8.proofs.White.{white_visible}
use Rattle.grammar.specs.Citable.{citable}
use Rattle.tree.specs.Plain.{is_plain, all_plain, PlainIf}
use Rattle.tree.proofs.Texts.{citable_from, citable_begin, citable_end, citable_char}

and_assoc : (x y z : Bool) → (x && y) && z ≡ x && (y && z)
and_assoc true y z = refl
and_assoc false y z = refl

-- a byte is plain if it is visible ASCII and no `]`
pub plain_tested : (b : ℕ) (x : Bool) → leb 0x21 b && leb b 0x7E ≡ x → x && not (eqb b 0x5D) ≡ is_plain b
unfolding is_plain
plain_tested b x h = rw (← h) (and_assoc (leb 0x21 b) (leb b 0x7E) (not (eqb b 0x5D)))

-- what a plain byte is
plain_byte : (b : ℕ) → is_plain b ≡ true → (0x21 ≤ b) × (b ≤ 0x7E) × (b ≡ 0x5D → ⊥)
unfolding is_plain
plain_byte b h =
    let p = and_both (leb 0x21 b) (leb b 0x7E && not (eqb b 0x5D)) h in
    let q = and_both (leb b 0x7E) (not (eqb b 0x5D)) p.1 in
    (leb-true 0x21 b p.0, leb-true b 0x7E q.0, λ e. false≢true (ap not (sym (eq-eqb b 0x5D e)) ∙ q.1))

-- what a test adds
pub and_yes : (x y : Bool) → y ≡ true → x ≡ x && y
and_yes true y h = sym h
and_yes false y h = refl

-- a turn of the loop: the byte at `i` joins those before it
pub plain_next : (x : Bool) (s : List ℕ) (i : ℕ) → i < length s → (x && is_plain (get_or s i 0)) && all_plain (drop (i + 1) s) ≡ x && all_plain (drop i s)
plain_next true s i h = rw (drop-cons s i 0 h, add-one)
plain_next false s i h = refl

pub plain_end : (x : Bool) (s : List ℕ) (i : ℕ) → length s ≤ i → x ≡ x && all_plain (drop i s)
plain_end true s i h = rw (drop_of_length-le s h)
plain_end false s i h = refl

plain_said : (x : Bool) (s : List ℕ) → x ≡ all_plain s → PlainIf x s
plain_said true s h = sym h
plain_said false s h = tt

-- what the test of all bytes from one on says
pub plain_rest : (x : Bool) (b : List ℕ) (base : ℕ) → x ≡ all_plain (take (length b - base) (drop base b)) → PlainIf x (drop base b)
plain_rest x b base h = plain_said x (drop base b) (h ∙ ap all_plain (take_all (length b - base) (drop base b) (omega (arith, length-drop base b))))

plain_drop : (k : ℕ) (s : List ℕ) → all_plain s ≡ true → all_plain (drop k s) ≡ true
plain_drop zero s h = h
plain_drop (suc k) [] h = h
plain_drop (suc k) (b ∷ s) h = plain_drop k s (and_both (is_plain b) (all_plain s) h).1

plain_take : (k : ℕ) (s : List ℕ) → all_plain s ≡ true → all_plain (take k s) ≡ true
plain_take zero s h = refl
plain_take (suc k) [] h = refl
plain_take (suc k) (b ∷ s) h = let q = and_both (is_plain b) (all_plain s) h in rw q.0 (plain_take k s q.1)

-- a part of plain bytes is plain
pub plain_part : (x : Bool) (b : List ℕ) (base p n : ℕ) → base ≤ p → PlainIf x (drop base b) → PlainIf x (take n (drop p b))
plain_part true b base p n l h =
    let e : base + (p - base) ≡ p = omega arith in
    plain_take n (drop p b) (ap (λ (k : ℕ). all_plain (drop k b)) (sym e) ∙ ap all_plain (sym (drop-drop (p - base) base b)) ∙ plain_drop (p - base) (drop base b) h)
plain_part false b base p n l h = tt

plain_white : (b : ℕ) → is_plain b ≡ true → is_white b ≡ false
plain_white b h = let k = plain_byte b h in white_visible b (omega (arith, k.0)) (omega (arith, k.1))

-- a plain byte is a character, not white space and no `]`
plain_char : (x : Bool) (b : ℕ) (s : List ℕ) → is_plain b ≡ true → citable_from (x && is_white b) s ≡ citable_from x (b ∷ s)
plain_char x b s h = citable_char x (b ∷ s) b 1 (ascii_step b s (omega (arith, (plain_byte b h).1))) (plain_byte b h).2

-- after a character that is not white space plain bytes are citable
plain_after : (s : List ℕ) → all_plain s ≡ true → citable_from false s ≡ true
plain_after [] h = sym (citable_end false [] refl)
plain_after (b ∷ s) h =
    let q = and_both (is_plain b) (all_plain s) h in
    sym (plain_char false b s q.0) ∙ plain_after s q.1

-- plain bytes are citable unless there are none
pub plain_citable : (x : Bool) (s : List ℕ) → x ≡ true → PlainIf x s → not (eqb (length s) 0) ≡ citable s
plain_citable false s e h = absurd (false≢true e)
plain_citable true [] e h = citable_end true [] refl ∙ citable_begin []
plain_citable true (b ∷ s) e h =
    let q = and_both (is_plain b) (all_plain s) h in
    ap not (ne_eqb (suc (length s)) 0 (λ e. absurd (omega (arith, e))))
    ∙ sym (plain_after s q.1)
    ∙ ap (λ (x : Bool). citable_from x s) (sym (plain_white b q.0))
    ∙ plain_char true b s q.0
    ∙ citable_begin (b ∷ s)
