-- The parts of lines as they are written: letters, figures, names. Assumes nothing.
use mathlib.Core.Path.{◌≡◌, refl, sym, ap, ◌∙◌, subst}
use mathlib.Core.List.{List, [], ◌∷◌, ◌++◌}
use Prim.Native.Nat.{ℕ, suc, ◌+◌, ◌/◌, ◌%◌, ◌≤◌, ◌<◌}
use Prim.Native.String.{String}
use native.Mathlib.Omega.{arith}
use Rattle.std.specs.Prelude.{map}
use lib.ListN.{length, length-take}
use borrow.Author.Tests.{ne_eqb, lt-ltb, le-ltb}
use Rattle.utf8.specs.Utf8.{encode_char}
use Rattle.grammar.specs.Quoted.{bytes}
use Rattle.citation.specs.declared.Truth.{Truth}
use Rattle.status.specs.declared.StatusKind.{StatusKind}
use Rattle.status.specs.Status.{word_of}
use Rattle.fields.specs.Appended.{Appended}
use Rattle.fields.proofs.Appends.{both, same}
use Rattle.line.specs.Sizes.{longest_truth, longest_number, longest_status_line}
use Rattle.line.specs.Lines.{line_feed, answer_byte, answer_bytes, figure, figures, truth_name, line, five_lines, alone_lines}
use Rattle.line.specs.Parts.{Within}

-- the answer bytes of the five letters
pub letters : (answer_byte 0x66 ≡ 0) × ((answer_byte 0x75 ≡ 1) × ((answer_byte 0x74 ≡ 2) × ((answer_byte 0x6E ≡ 3) × (answer_byte 0x65 ≡ 4))))
unfolding answer_byte
letters = (refl, (refl, (refl, (refl, refl))))

-- one of them
pub one_letter : (x k b : ℕ) → x ≡ k → answer_byte k ≡ b → b ≡ answer_byte x
one_letter x k b h e = sym (ap answer_byte h ∙ e)

-- any other
pub other_letter : (x : ℕ) → (x ≡ 0x66 → ⊥) → (x ≡ 0x75 → ⊥) → (x ≡ 0x74 → ⊥) → (x ≡ 0x6E → ⊥) → (x ≡ 0x65 → ⊥) → 5 ≡ answer_byte x
unfolding answer_byte
other_letter x f u t n e = rw (ne_eqb x 0x66 f, ne_eqb x 0x75 u, ne_eqb x 0x74 t, ne_eqb x 0x6E n, ne_eqb x 0x65 e)

-- one byte a letter
pub answers_length : (a : List ℕ) → length (answer_bytes a) ≡ length a
unfolding answer_bytes
answers_length [] = refl
answers_length (c ∷ a) = ap suc (answers_length a)

-- the answer bytes of all letters
pub answers_mapped : (a : List ℕ) → map answer_byte a ≡ answer_bytes a
unfolding answer_bytes
answers_mapped [] = refl
answers_mapped (c ∷ a) = ap (λ x. answer_byte c ∷ x) (answers_mapped a)

module _ (n : ℕ) {at : ℕ} {k : List ℕ} where
  -- a number of one digit
  pub one_figure : (x : ℕ) → x ≡ figure n → n < 10 → {p : ℕ} {l : List ℕ} → Appended (x ∷ []) at k l p → Within longest_number (figures n) at k l p
  unfolding figures
  one_figure x e h a =
      let is : x ∷ [] ≡ figures n = rw (lt-ltb n 10 h) (ap (λ (y : ℕ). y ∷ []) e) in
      record { written = same is a; short = omega (arith, a.ends) }

  -- of two
  pub two_figures : (x y : ℕ) → x ≡ figure (n / 10) → y ≡ figure (n % 10) → 10 ≤ n → n < 100 → {p q : ℕ} {l m : List ℕ} → Appended (x ∷ []) at k l p → Appended (y ∷ []) p l m q → Within longest_number (figures n) at k m q
  unfolding figures
  two_figures x y e f h i a b =
      let is : x ∷ y ∷ [] ≡ figures n = rw (le-ltb n 10 h, lt-ltb n 100 i) (ap (λ (z : ℕ). z ∷ y ∷ []) e ∙ ap (λ (z : ℕ). figure (n / 10) ∷ z ∷ []) f) in
      record { written = same is (both a b); short = omega (arith, a.ends, b.ends) }

  -- of three
  pub three_figures : (x y z : ℕ) → x ≡ figure (n / 100) → y ≡ figure (n / 10 % 10) → z ≡ figure (n % 10) → 100 ≤ n → {p q r : ℕ} {l m o : List ℕ}
      → Appended (x ∷ []) at k l p → Appended (y ∷ []) p l m q → Appended (z ∷ []) q m o r → Within longest_number (figures n) at k o r
  unfolding figures
  three_figures x y z e f g h a b c =
      let is : x ∷ y ∷ z ∷ [] ≡ figures n =
      rw (le-ltb n 10 (omega arith), le-ltb n 100 h) (ap (λ (u : ℕ). u ∷ y ∷ z ∷ []) e ∙ ap (λ (u : ℕ). figure (n / 100) ∷ u ∷ z ∷ []) f ∙ ap (λ (u : ℕ). figure (n / 100) ∷ figure (n / 10 % 10) ∷ u ∷ []) g) in
      record { written = same is (both a (both b c)); short = omega (arith, a.ends, b.ends, c.ends) }

-- the names of truths, by their bytes
pub truth_names : (bytes "False" ≡ 0x46 ∷ 0x61 ∷ 0x6C ∷ 0x73 ∷ 0x65 ∷ []) × ((bytes "Unknown" ≡ 0x55 ∷ 0x6E ∷ 0x6B ∷ 0x6E ∷ 0x6F ∷ 0x77 ∷ 0x6E ∷ []) × ((bytes "True" ≡ 0x54 ∷ 0x72 ∷ 0x75 ∷ 0x65 ∷ []) × ((bytes "Neutral" ≡ 0x4E ∷ 0x65 ∷ 0x75 ∷ 0x74 ∷ 0x72 ∷ 0x61 ∷ 0x6C ∷ []))))
unfolding encode_char
truth_names = (refl, (refl, (refl, (refl))))

-- the names of lines, by their bytes
pub line_names : (bytes "status " ≡ 0x73 ∷ 0x74 ∷ 0x61 ∷ 0x74 ∷ 0x75 ∷ 0x73 ∷ 0x20 ∷ []) × ((bytes "tree " ≡ 0x74 ∷ 0x72 ∷ 0x65 ∷ 0x65 ∷ 0x20 ∷ []) × ((bytes "presence " ≡ 0x70 ∷ 0x72 ∷ 0x65 ∷ 0x73 ∷ 0x65 ∷ 0x6E ∷ 0x63 ∷ 0x65 ∷ 0x20 ∷ []) × ((bytes "pakete " ≡ 0x70 ∷ 0x61 ∷ 0x6B ∷ 0x65 ∷ 0x74 ∷ 0x65 ∷ 0x20 ∷ []) × ((bytes "format " ≡ 0x66 ∷ 0x6F ∷ 0x72 ∷ 0x6D ∷ 0x61 ∷ 0x74 ∷ 0x20 ∷ []) × ((bytes "refused " ≡ 0x72 ∷ 0x65 ∷ 0x66 ∷ 0x75 ∷ 0x73 ∷ 0x65 ∷ 0x64 ∷ 0x20 ∷ []))))))
unfolding encode_char
line_names = (refl, (refl, (refl, (refl, (refl, (refl))))))

-- a text was written, and it is short
pub within : (most : ℕ) {text said : List ℕ} {at p : ℕ} {k l : List ℕ} → text ≡ said → length text ≤ most → Appended text at k l p → Within most said at k l p
within most e h a = record { written = same e a; short = omega (arith, a.ends) }

-- a number that was written is another
pub same-figures : (n m : ℕ) {at p : ℕ} {k l : List ℕ} → n ≡ m → Within longest_number (figures n) at k l p → Within longest_number (figures m) at k l p
same-figures n m {at} {p} {k} {l} e w = subst (λ (x : ℕ). Within longest_number (figures x) at k l p) e w

-- a truth's name was written
pub named-truth : (t u : Truth) {text : List ℕ} {at p : ℕ} {k l : List ℕ} → t ≡ u → truth_name u ≡ text → length text ≤ longest_truth → Appended text at k l p → Within longest_truth (truth_name t) at k l p
named-truth t u e f h a = record { written = same (sym (ap truth_name e ∙ f)) a; short = omega (arith, a.ends) }

-- a line: its name, what it says, a line feed
pub lined : (name : String) (most : ℕ) {text said : List ℕ} {at p q r : ℕ} {k l m o : List ℕ} → bytes name ≡ text → Appended text at k l p → Within most said p l m q → Appended (line_feed ∷ []) q m o r
    → Within (length text + most + 1) (line name said) at k o r
lined name most e a b c = record { written = both (same (sym e) a) (both b.written c); short = omega (arith, a.ends, b.short, c.ends) }

-- the line of a format truth and texts
pub formatted : (name : String) {text truth texts said : List ℕ} {at p q r z : ℕ} {k l m n o : List ℕ} → bytes name ≡ text → texts ≡ said → Appended text at k l p → Within longest_truth truth p l m q → Appended texts q m n r → Appended (line_feed ∷ []) r n o z
    → Appended (line name (truth ++ said)) at k o z
formatted name e f a b c d = both (same (sym e) a) (both (both b.written (same f c)) d)

-- five lines
pub five_written : (s : StatusKind) {a b c d : ℕ} (tree presence pakete format : List ℕ) {p q r y z : ℕ} {k l m n o x : List ℕ} → Within a (line "status " (word_of s)) 0 k l p → Within b (line "tree " tree) p l m q
    → Within c (line "presence " presence) q m n r → Within d (line "pakete " pakete) r n o y → Appended (line "format " format) y o x z → Appended (five_lines s tree presence pakete format) 0 k x z
unfolding five_lines
five_written s tree presence pakete format a b c d e = both a.written (both b.written (both c.written (both d.written e)))

alone_rest : (k : StatusKind) (rest : List ℕ) → rest ≡ line "tree " (bytes "-") ++ (line "presence " (bytes "-") ++ (line "pakete " (bytes "-") ++ line "format " (bytes "-")))
    → line "status " (word_of k) ++ rest ≡ alone_lines k
unfolding five_lines
alone_rest k rest e = ap (λ x. line "status " (word_of k) ++ x) e

-- the last four lines of a word alone
pub four_lines : line "tree " (bytes "-") ++ (line "presence " (bytes "-") ++ (line "pakete " (bytes "-") ++ line "format " (bytes "-"))) ≡ 0x74 ∷ 0x72 ∷ 0x65 ∷ 0x65 ∷ 0x20 ∷ 0x2D ∷ 0xA ∷ 0x70 ∷ 0x72 ∷ 0x65 ∷ 0x73 ∷ 0x65 ∷ 0x6E ∷ 0x63 ∷ 0x65 ∷ 0x20 ∷ 0x2D ∷ 0xA ∷ 0x70 ∷ 0x61 ∷ 0x6B ∷ 0x65 ∷ 0x74 ∷ 0x65 ∷ 0x20 ∷ 0x2D ∷ 0xA ∷ 0x66 ∷ 0x6F ∷ 0x72 ∷ 0x6D ∷ 0x61 ∷ 0x74 ∷ 0x20 ∷ 0x2D ∷ 0xA ∷ []
unfolding encode_char
four_lines = refl

-- the lines of a word alone
pub alone_written : (k : StatusKind) {text : List ℕ} {p q : ℕ} {l m o : List ℕ} → line "tree " (bytes "-") ++ (line "presence " (bytes "-") ++ (line "pakete " (bytes "-") ++ line "format " (bytes "-"))) ≡ text
    → Within longest_status_line (line "status " (word_of k)) 0 l m p → Appended text p m o q → Appended (alone_lines k) 0 l o q
alone_written k {text} e a b = same (alone_rest k text (sym e)) (both a.written b)

-- what was written from the first byte on fits in
pub inside : {text : List ℕ} {q : ℕ} {old new : List ℕ} → Appended text 0 old new q → q ≤ length new
inside {text} {q} {old} {new} a = omega (arith, a.ends, simp length-take at (ap length a.has))
