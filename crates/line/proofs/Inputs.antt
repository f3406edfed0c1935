-- An input taken byte by byte is its three lines as far as they decide. Assumes nothing.
use mathlib.Core.Path.{◌≡◌, refl, sym, ap, ◌∙◌}
use mathlib.Core.List.{List, [], ◌∷◌, ◌++◌, append_assoc, append-nil}
use mathlib.Core.Bool.{Bool, true, false, cond}
use Prim.Native.Nat.{ℕ, zero, suc, ◌+◌, ◌-◌, ◌≤◌, ◌<◌}
use native.Mathlib.Numerals.{add-one}
use native.Mathlib.Omega.{arith}
use lib.Dec.{eqb, ltb}
use lib.ListN.{length, get_or, take, drop, set, length-append, drop_of_length-le}
use lib.Seq.{take-nil, length-take-le, take-suc-set, drop-cons}
use borrow.Author.Tests.{lt-ltb, le-ltb, ltb-true, ltb-false}
use Rattle.line.specs.Sizes.{kept_status, kept_answers, kept_value}
use Rattle.line.specs.Lines.{line_feed, lines}
use Rattle.line.specs.Input.{first_line, after_line, line_at, input_lines, Kept, no_input, longer, next_row, with_byte, fed, fed_all}
use Rattle.line.proofs.Cuts.{cut-lines}

module _ (most b len : ℕ) (line : List ℕ) (size : length line ≡ most) where
  -- one byte more is kept
  pub longer_kept : len < most → take (len + 1) (set line len b) ≡ longer most b (take len line)
  unfolding longer
  longer_kept h =
      rw (lt-ltb (length (take len line)) most (omega (arith, length-take-le len line (omega arith))))
      (ap (λ (m : ℕ). take m (set line len b)) (add-one len) ∙ take-suc-set line len b (omega arith))

  -- the line is full
  pub longer_full : len ≤ most → most ≤ len → take len line ≡ longer most b (take len line)
  unfolding longer
  longer_full l h = rw (le-ltb (length (take len line)) most (omega (arith, length-take-le len line (omega arith))))

-- so many more of a line's bytes
abbrev filled : ℕ → List ℕ → List ℕ → List ℕ
filled most t l = t ++ take (most - length t) l

filled_next : (most : ℕ) (t : List ℕ) (b : ℕ) (l : List ℕ) → filled most (longer most b t) l ≡ filled most t (b ∷ l)
unfolding longer
filled_next most t b l = by (ltb (length t) most) refl
  where
    by : (x : Bool) → ltb (length t) most ≡ x → filled most (cond x (t ++ (b ∷ [])) t) l ≡ filled most t (b ∷ l)
    by true h =
        let less = ltb-true (length t) most h in
        let one : most - length t ≡ suc (most - length (t ++ (b ∷ []))) = omega (arith, length-append t (b ∷ []), less) in
        append_assoc t (b ∷ []) (take (most - length (t ++ (b ∷ []))) l) ∙ ap (λ (n : ℕ). t ++ take n (b ∷ l)) (sym one)
    by false h =
        let none : most - length t ≡ 0 = omega (arith, ltb-false (length t) most h) in
        ap (λ (n : ℕ). t ++ take n l) none ∙ sym (ap (λ (n : ℕ). t ++ take n (b ∷ l)) none)

first_feed : (b : ℕ) (s : List ℕ) → eqb b line_feed ≡ true → (first_line (b ∷ s) ≡ []) × (after_line (b ∷ s) ≡ s)
unfolding first_line after_line
first_feed b s h = (rw h, rw h)

first_byte : (b : ℕ) (s : List ℕ) → eqb b line_feed ≡ false → (first_line (b ∷ s) ≡ b ∷ first_line s) × (after_line (b ∷ s) ≡ after_line s)
unfolding first_line after_line
first_byte b s h = (rw h, rw h)

line_none : (k : ℕ) → line_at k [] ≡ []
unfolding line_at first_line after_line
line_none zero = refl
line_none (suc k) = line_none k

module _ (b : ℕ) (s : List ℕ) (h : eqb b line_feed ≡ true) where
  feed_here : line_at 0 (b ∷ s) ≡ []
  unfolding line_at
  feed_here = (first_feed b s h).0

  feed_later : (k : ℕ) → line_at (suc k) (b ∷ s) ≡ line_at k s
  unfolding line_at
  feed_later k = ap (line_at k) (first_feed b s h).1

module _ (b : ℕ) (s : List ℕ) (h : eqb b line_feed ≡ false) where
  byte_here : line_at 0 (b ∷ s) ≡ b ∷ line_at 0 s
  unfolding line_at
  byte_here = (first_byte b s h).0

  byte-later : (k : ℕ) → line_at (suc k) (b ∷ s) ≡ line_at (suc k) s
  unfolding line_at
  byte-later k = ap (line_at k) (first_byte b s h).1

filled_none : (most : ℕ) (t l : List ℕ) → l ≡ [] → t ≡ filled most t l
filled_none most t l e = sym (ap (λ x. t ++ take (most - length t) x) e ∙ ap (λ x. t ++ x) (take-nil (most - length t)) ∙ append-nil t)

fed_feed : (b : ℕ) (h : Kept) → eqb b line_feed ≡ true → fed b h ≡ record { row = next_row h.row; status = h.status; answers = h.answers; value = h.value }
unfolding fed
fed_feed b h e = rw e

fed_other : (b : ℕ) (h : Kept) → eqb b line_feed ≡ false → fed b h ≡ with_byte b h
unfolding fed
fed_other b h e = rw e

abbrev at : (row : ℕ) (s a v : List ℕ) → Kept
at row s a v = record { row = row; status = s; answers = a; value = v }

fed_more : (b : ℕ) (i : List ℕ) (h g : Kept) → fed b h ≡ g → fed_all (b ∷ i) h ≡ fed_all i g
unfolding fed_all
fed_more b i h g e = ap (fed_all i) e

fed_none : (h : Kept) → fed_all [] h ≡ h
unfolding fed_all
fed_none h = refl

-- the three lines that are kept
abbrev Keeps : (h : Kept) (s a v : List ℕ) → Type 0
Keeps h s a v = (h.status ≡ s) × ((h.answers ≡ a) × (h.value ≡ v))

keeps : (h g : Kept) (s a v t c w : List ℕ) → h ≡ g → Keeps g t c w → t ≡ s → c ≡ a → w ≡ v → Keeps h s a v
keeps h g s a v t c w e k p q r = (ap (λ x. x.status) e ∙ k.0 ∙ p, (ap (λ x. x.answers) e ∙ k.1.0 ∙ q, ap (λ x. x.value) e ∙ k.1.1 ∙ r))

past : (i s a v : List ℕ) → Keeps (fed_all i (at 3 s a v)) s a v
past [] s a v = keeps _ (at 3 s a v) s a v s a v (fed_none (at 3 s a v)) (refl, (refl, refl)) refl refl refl
past (b ∷ i) s a v = by (eqb b line_feed) refl (past i s a v)
  where
    by : (t : Bool) → eqb b line_feed ≡ t → Keeps (fed_all i (at 3 s a v)) s a v → Keeps (fed_all (b ∷ i) (at 3 s a v)) s a v
    by true h k = keeps _ _ s a v s a v (fed_more b i (at 3 s a v) (at 3 s a v) (fed_feed b (at 3 s a v) h)) k refl refl refl
    by false h k = keeps _ _ s a v s a v (fed_more b i (at 3 s a v) (at 3 s a v) (fed_other b (at 3 s a v) h)) k refl refl refl

third : (i s a v : List ℕ) → Keeps (fed_all i (at 2 s a v)) s a (filled kept_value v (line_at 0 i))
third [] s a v = keeps _ (at 2 s a v) s a _ s a v (fed_none (at 2 s a v)) (refl, (refl, refl)) refl refl (filled_none kept_value v _ (line_none 0))
third (b ∷ i) s a v = by (eqb b line_feed) refl (third i s a (longer kept_value b v))
  where
    by : (t : Bool) → eqb b line_feed ≡ t → Keeps (fed_all i (at 2 s a (longer kept_value b v))) s a (filled kept_value (longer kept_value b v) (line_at 0 i)) → Keeps (fed_all (b ∷ i) (at 2 s a v)) s a (filled kept_value v (line_at 0 (b ∷ i)))
    by true h k = keeps _ _ s a _ s a v (fed_more b i (at 2 s a v) (at 3 s a v) (fed_feed b (at 2 s a v) h)) (past i s a v) refl refl (filled_none kept_value v _ (feed_here b i h))
    by false h k =
        keeps _ _ s a _ s a _ (fed_more b i (at 2 s a v) (at 2 s a (longer kept_value b v)) (fed_other b (at 2 s a v) h)) k refl refl
        (filled_next kept_value v b (line_at 0 i) ∙ ap (filled kept_value v) (sym (byte_here b i h)))

second : (i s a v : List ℕ) → Keeps (fed_all i (at 1 s a v)) s (filled kept_answers a (line_at 0 i)) (filled kept_value v (line_at 1 i))
second [] s a v =
    keeps _ (at 1 s a v) s _ _ s a v (fed_none (at 1 s a v)) (refl, (refl, refl)) refl (filled_none kept_answers a _ (line_none 0)) (filled_none kept_value v _ (line_none 1))
second (b ∷ i) s a v = by (eqb b line_feed) refl (second i s (longer kept_answers b a) v)
  where
    by : (t : Bool) → eqb b line_feed ≡ t → Keeps (fed_all i (at 1 s (longer kept_answers b a) v)) s (filled kept_answers (longer kept_answers b a) (line_at 0 i)) (filled kept_value v (line_at 1 i)) → Keeps (fed_all (b ∷ i) (at 1 s a v)) s (filled kept_answers a (line_at 0 (b ∷ i))) (filled kept_value v (line_at 1 (b ∷ i)))
    by true h k =
        keeps _ _ s _ _ s a _ (fed_more b i (at 1 s a v) (at 2 s a v) (fed_feed b (at 1 s a v) h)) (third i s a v) refl (filled_none kept_answers a _ (feed_here b i h))
        (ap (filled kept_value v) (sym (feed_later b i h 0)))
    by false h k =
        keeps _ _ s _ _ s _ _ (fed_more b i (at 1 s a v) (at 1 s (longer kept_answers b a) v) (fed_other b (at 1 s a v) h)) k refl
        (filled_next kept_answers a b (line_at 0 i) ∙ ap (filled kept_answers a) (sym (byte_here b i h))) (ap (filled kept_value v) (sym (byte-later b i h 0)))

first : (i s a v : List ℕ) → Keeps (fed_all i (at 0 s a v)) (filled kept_status s (line_at 0 i)) (filled kept_answers a (line_at 1 i)) (filled kept_value v (line_at 2 i))
first [] s a v =
    keeps _ (at 0 s a v) _ _ _ s a v (fed_none (at 0 s a v)) (refl, (refl, refl)) (filled_none kept_status s _ (line_none 0)) (filled_none kept_answers a _ (line_none 1)) (filled_none kept_value v _ (line_none 2))
first (b ∷ i) s a v = by (eqb b line_feed) refl (first i (longer kept_status b s) a v)
  where
    by : (t : Bool) → eqb b line_feed ≡ t → Keeps (fed_all i (at 0 (longer kept_status b s) a v)) (filled kept_status (longer kept_status b s) (line_at 0 i)) (filled kept_answers a (line_at 1 i)) (filled kept_value v (line_at 2 i)) → Keeps (fed_all (b ∷ i) (at 0 s a v)) (filled kept_status s (line_at 0 (b ∷ i))) (filled kept_answers a (line_at 1 (b ∷ i))) (filled kept_value v (line_at 2 (b ∷ i)))
    by true h k =
        keeps _ _ _ _ _ s _ _ (fed_more b i (at 0 s a v) (at 1 s a v) (fed_feed b (at 0 s a v) h)) (second i s a v) (filled_none kept_status s _ (feed_here b i h))
        (ap (filled kept_answers a) (sym (feed_later b i h 0))) (ap (filled kept_value v) (sym (feed_later b i h 1)))
    by false h k =
        keeps _ _ _ _ _ _ _ _ (fed_more b i (at 0 s a v) (at 0 (longer kept_status b s) a v) (fed_other b (at 0 s a v) h)) k
        (filled_next kept_status s b (line_at 0 i) ∙ ap (filled kept_status s) (sym (byte_here b i h))) (ap (filled kept_answers a) (sym (byte-later b i h 0))) (ap (filled kept_value v) (sym (byte-later b i h 1)))

-- what is kept of an input is its first three lines, as far as they decide
pub kept_lines : (i : List ℕ) → Keeps (fed_all i no_input) (take kept_status (line_at 0 i)) (take kept_answers (line_at 1 i)) (take kept_value (line_at 2 i))
kept_lines i = first i [] [] []

-- and its report is that of the input
pub kept_report : (i : List ℕ) → lines (fed_all i no_input).status (fed_all i no_input).answers (fed_all i no_input).value ≡ input_lines i
kept_report i =
    let k = kept_lines i in
    let h = fed_all i no_input in
    ap (λ x. lines x h.answers h.value) k.0 ∙ ap (λ x. lines (take kept_status (line_at 0 i)) x h.value) k.1.0 ∙ ap (lines (take kept_status (line_at 0 i)) (take kept_answers (line_at 1 i))) k.1.1
    ∙ cut-lines (line_at 0 i) (line_at 1 i) (line_at 2 i)

-- the next byte of an input
pub fed-next : (input : List ℕ) (i : ℕ) (h : Kept) → i < length input → fed_all (drop i input) h ≡ fed_all (drop (i + 1) input) (fed (get_or input i 0) h)
unfolding fed_all
fed-next input i h l = rw (drop-cons input i 0 l, add-one)

-- after the last
pub fed_end : (input : List ℕ) (i : ℕ) (h : Kept) → length input ≤ i → h ≡ fed_all (drop i input) h
unfolding fed_all
fed_end input i h l = rw (drop_of_length-le input {i = i} l)
