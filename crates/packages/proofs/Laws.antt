-- Package rows one after another: a number's bytes, the loops over the citations, and what `pakete` answers. Assumes nothing.
use Rattle.std.specs.Prelude.{Ok, Err, is_some, unwrap_or}
use Rattle.std.specs.Int.{w64, to_le_bytes, bytes_low_first, byte_at}
use mir.Val.{bool_byte}
use mathlib.Core.Path.{◌≡◌, refl, sym, ap, ◌∙◌}
use mathlib.Core.List.{List, [], ◌∷◌, ◌++◌, append_assoc, append-nil}
use mathlib.Core.Bool.{Bool, true, false}
use Prim.Native.Nat.{ℕ, zero, suc, ◌+◌, ◌*◌, ◌/◌, ◌%◌, ◌^◌, ◌≤◌, ◌<◌}
use native.Mathlib.Numerals.{add-one}
use native.Mathlib.Nat.{pow-zero, pow-suc, div-one, div-div-eq-div-mul}
use native.Mathlib.Omega.{arith}
use lib.ListN.{length, get_or, drop, length-append, drop_of_length-le}
use lib.Seq.{drop-cons}
use Rattle.refusal.specs.Result.{map_ok, then}
use Rattle.refusal.specs.declared.Refusal.TheVariants.{NotATree, NoRoom}
use Rattle.citation.specs.declared.Paket.{Paket}
use Rattle.grammar.specs.Expr.{concat}
use Rattle.grammar.proofs.Bounds.{concat_append}
use Rattle.grammar.specs.Bytes.{two_bytes, cites, texts_in, is_tree}
use Rattle.grammar.specs.Outcome.{answer_of, written_of}
use Rattle.grammar.proofs.Outcome.{answer_fits, written_fits, answer_short, written_short}
use Rattle.semantics.specs.Packages.{paket_size, bytes_up_to, mark_of, paket_bytes, row_of, rows_of, pakete}
use Rattle.semantics.proofs.Sizes.{row-length, rows_length}
use Rattle.semantics.specs.Answers.{rowed, pakete_answer}
use Rattle.fields.specs.Appended.{Appended}
use Rattle.fields.proofs.Appends.{both, same, whole}
use Rattle.tree.specs.Walk.{text_at}
use Rattle.tree.proofs.Spots.{texts-count}
use Rattle.tree.proofs.Walks.{root, no-tree}

byte_is : (i n : ℕ) → byte_at i n ≡ n / 256 ^ i % 256
byte_is zero n = ap (λ (x : ℕ). x % 256) (sym (div-one n) ∙ ap (λ (x : ℕ). n / x) (sym (pow-zero 256)))
byte_is (suc i) n = refl

-- a number's bytes as std says them, from byte i on
bytes_from : (i width n : ℕ) → bytes_low_first i width n ≡ bytes_up_to width (n / 256 ^ i)
unfolding bytes_up_to
bytes_from i zero n = refl
bytes_from i (suc width) n =
    let more : n / 256 ^ suc i ≡ n / 256 ^ i / 256 = ap (λ (x : ℕ). n / x) (pow-suc 256 i) ∙ sym (div-div-eq-div-mul n (256 ^ i) 256) in
    rw (byte_is i n) (ap (λ x. (n / 256 ^ i % 256) ∷ x) (bytes_from (suc i) width n ∙ ap (bytes_up_to width) more))

-- the eight bytes of a number as std says them
pub bytes-said : (v : ℕ) → to_le_bytes w64 v ≡ bytes_up_to 8 v
bytes-said v = bytes_from 0 8 v ∙ ap (bytes_up_to 8) (ap (λ (x : ℕ). v / x) (pow-zero 256) ∙ div-one v)

rows_cons : (n : ℕ) (t : List ℕ) (ts : List (List ℕ)) → rows_of n (t ∷ ts) ≡ row_of n t ++ rows_of (n + 1) ts
unfolding rows_of
rows_cons n t ts = ap (λ (x : ℕ). row_of n t ++ rows_of x ts) (sym (add-one n))

bytes-length : (width v : ℕ) → length (bytes_up_to width v) ≡ width
unfolding bytes_up_to
bytes-length zero v = refl
bytes-length (suc width) v = ap suc (bytes-length width (v / 256))

-- the place after a number of eight bytes
pub after_eight : (v : ℕ) {at q : ℕ} {l m : List ℕ} → Appended (bytes_up_to 8 v) at l m q → q ≡ at + 8
after_eight v a = omega (arith, a.ends, bytes-length 8 v)

mark_is : (b : Bool) → bool_byte b ≡ mark_of b
mark_is true = refl
mark_is false = refl

row-parts : (n : ℕ) (p : Paket) (m h : ℕ) → m ≡ bool_byte (is_some p.high) → h ≡ unwrap_or p.high 0
    → two_bytes n ++ (bytes_up_to 8 p.low ++ ((m ∷ []) ++ bytes_up_to 8 h)) ≡ paket_bytes n p
unfolding paket_bytes
row-parts n p m h e f = rw (e ∙ mark_is (is_some p.high), f)

-- the fields of a row, one after another
pub row_written : (n : ℕ) (p : Paket) (m h : ℕ) {at w x y z : ℕ} {k l o q r : List ℕ} → m ≡ bool_byte (is_some p.high) → h ≡ unwrap_or p.high 0
    → Appended (two_bytes n) at k l w → Appended (bytes_up_to 8 p.low) w l o x → Appended (m ∷ []) x o q y → Appended (bytes_up_to 8 h) y q r z → Appended (paket_bytes n p) at k r z
row_written n p m h e f a b c d = same (row-parts n p m h e f) (both a (both b (both c d)))

no-texts : concat [] ≡ []
unfolding concat
no-texts = refl

-- the bytes of one row
pub one_row : (n : ℕ) (p : Paket) (rs : List (List ℕ)) → paket_bytes n p ∷ [] ≡ rs → paket_bytes n p ≡ concat rs
unfolding concat
one_row n p rs h = sym (append-nil (paket_bytes n p)) ∙ ap concat h

-- how many they are
pub one_length : (n : ℕ) (p : Paket) (rs : List (List ℕ)) → paket_bytes n p ∷ [] ≡ rs → length (concat rs) ≡ 19
one_length n p rs h = ap length (sym (one_row n p rs h)) ∙ row-length n p

-- the bytes of none
pub no_row : (rs : List (List ℕ)) → [] ≡ rs → [] ≡ concat rs
no_row rs h = sym no-texts ∙ ap concat h

-- the rows from a citation on: its own, and those of the citations after it
pub rows_split : (b : List ℕ) (n : ℕ) → n < cites b → rows_of n (drop n (texts_in b)) ≡ row_of n (text_at b n) ++ rows_of (n + 1) (drop (n + 1) (texts_in b))
unfolding text_at
rows_split b n h =
    let texts = texts_in b in
    let l : n < length texts = omega (arith, texts-count b) in
    ap (rows_of n) (drop-cons texts n [] l ∙ ap (λ (x : ℕ). get_or texts n [] ∷ drop x texts) (sym (add-one n))) ∙ rows_cons n (get_or texts n []) (drop (n + 1) texts)

rows_none : (b : List ℕ) (n : ℕ) → cites b ≤ n → rows_of n (drop n (texts_in b)) ≡ []
unfolding rows_of
rows_none b n h = let l : length (texts_in b) ≤ n = omega (arith, texts-count b) in rw (drop_of_length-le (texts_in b) {i = n} l)

-- the rows up to the citation n are counted
abbrev pub Counted : List ℕ → ℕ → ℕ → Type 0
Counted b n rows = rows + length (rows_of n (drop n (texts_in b))) ≡ length (rows_of 0 (texts_in b))

-- one citation more
pub count_next : (b : List ℕ) (n rows r : ℕ) → n < cites b → Counted b n rows → r ≡ length (row_of n (text_at b n)) → Counted b (n + 1) (rows + r)
count_next b n rows r h s e =
    omega (arith, s, e, ap length (rows_split b n h), length-append (row_of n (text_at b n)) (rows_of (n + 1) (drop (n + 1) (texts_in b))))

-- after the last
pub count_end : (b : List ℕ) (n rows : ℕ) → cites b ≤ n → Counted b n rows → rows ≡ length (rows_of 0 (texts_in b))
count_end b n rows h s = omega (arith, s, ap length (rows_none b n h))

-- the rows up to the citation n are written
pub record Going (b : List ℕ) (base out : List ℕ) (n w : ℕ) : Type 0 where
  pub done : List ℕ
  pub all : concat (rows_of 0 (texts_in b)) ≡ done ++ concat (rows_of n (drop n (texts_in b)))
  pub written : Appended done 0 base out w
  pub kept : length out ≡ length base

rest_split : (b : List ℕ) (n : ℕ) → n < cites b → concat (rows_of n (drop n (texts_in b))) ≡ concat (row_of n (text_at b n)) ++ concat (rows_of (n + 1) (drop (n + 1) (texts_in b)))
rest_split b n h = ap concat (rows_split b n h) ∙ concat_append (row_of n (text_at b n)) (rows_of (n + 1) (drop (n + 1) (texts_in b)))

-- there is room for the next
pub going_room : {b base out : List ℕ} {n w : ℕ} → Going b base out n w → n < cites b → length (concat (rows_of 0 (texts_in b))) ≤ length base
    → w + length (concat (row_of n (text_at b n))) ≤ length out
going_room {b} {base} {out} {n} {w} s h l =
    let more = concat (rows_of (n + 1) (drop (n + 1) (texts_in b))) in
    let here = concat (row_of n (text_at b n)) in
    omega (arith, l, s.kept, s.written.ends, ap length s.all, length-append s.done (concat (rows_of n (drop n (texts_in b)))), ap length (rest_split b n h), length-append here more)

-- one citation more
pub going_next : {b base out new : List ℕ} {n w q : ℕ} → Going b base out n w → n < cites b → Appended (concat (row_of n (text_at b n))) w out new q → length new ≡ length out
    → Going b base new (n + 1) q
going_next {b} {base} {out} {new} {n} {w} {q} s h a k =
    let here = concat (row_of n (text_at b n)) in
    record {
      done = s.done ++ here;
      all = s.all ∙ ap (λ x. s.done ++ x) (rest_split b n h) ∙ sym (append_assoc s.done here (concat (rows_of (n + 1) (drop (n + 1) (texts_in b)))));
      written = both s.written a;
      kept = k ∙ s.kept;
    }

-- after the last
pub going_end : {b base out : List ℕ} {n w : ℕ} → Going b base out n w → cites b ≤ n → Appended (concat (rows_of 0 (texts_in b))) 0 base out w
going_end {b} {base} {out} {n} {w} s h =
    same (sym (s.all ∙ ap (λ x. s.done ++ x) (ap concat (rows_none b n h) ∙ no-texts) ∙ append-nil s.done)) s.written

-- the bytes that the rows take up
pub room_is : (b : List ℕ) (rows : ℕ) → rows ≡ length (rows_of 0 (texts_in b)) → length (concat (rows_of 0 (texts_in b))) ≡ paket_size * rows
room_is b rows e = (rows_length 0 (texts_in b)).0 ∙ ap (λ (x : ℕ). paket_size * x) (sym e)

-- on a tree
answer_is : (b : List ℕ) → is_tree b ≡ true → pakete_answer b ≡ Ok (rowed (rows_of 0 (texts_in b)))
unfolding pakete_answer map_ok pakete
answer_is b h = let r = root b h in rw (r.is, r.cited)

-- 15
pub pakete_refused : (b old : List ℕ) → is_tree b ≡ false → record { result_value : Err NotATree ≡ answer_of (pakete_answer b) (length old); out_after : old ≡ written_of (pakete_answer b) old }
unfolding pakete_answer map_ok answer_of written_of then
pakete_refused b old h = record { result_value = rw (no-tree b h); out_after = rw (no-tree b h) }

-- 14
pub pakete_short : (b old : List ℕ) (rows : ℕ) → is_tree b ≡ true → rows ≡ length (rows_of 0 (texts_in b)) → length old < paket_size * rows
    → record { result_value : Err NoRoom ≡ answer_of (pakete_answer b) (length old); out_after : old ≡ written_of (pakete_answer b) old }
pakete_short b old rows h e l =
    let w = rowed (rows_of 0 (texts_in b)) in
    let short : length old < length (concat (rows_of 0 (texts_in b))) = omega (arith, l, room_is b rows e) in
    record {
      result_value = sym (ap (λ x. answer_of x (length old)) (answer_is b h) ∙ answer_short w (length old) short);
      out_after = sym (ap (λ x. written_of x old) (answer_is b h) ∙ written_short w old short);
    }

-- the rows
pub pakete_done : (b old new : List ℕ) (rows q : ℕ) → is_tree b ≡ true → rows ≡ length (rows_of 0 (texts_in b)) → paket_size * rows ≤ length old
    → Appended (concat (rows_of 0 (texts_in b))) 0 old new q → record { result_value : Ok rows ≡ answer_of (pakete_answer b) (length old); out_after : new ≡ written_of (pakete_answer b) old }
pakete_done b old new rows q h e l a =
    let w = rowed (rows_of 0 (texts_in b)) in
    let room : length (concat (rows_of 0 (texts_in b))) ≤ length old = omega (arith, l, room_is b rows e) in
    record {
      result_value = ap Ok e ∙ sym (ap (λ x. answer_of x (length old)) (answer_is b h) ∙ answer_fits w (length old) room);
      out_after = whole a ∙ sym (ap (λ x. written_of x old) (answer_is b h) ∙ written_fits w old room);
    }
