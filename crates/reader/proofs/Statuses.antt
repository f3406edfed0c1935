-- The answers of reading a status and the lent bytes. Assumes nothing.
use Rattle.std.specs.Prelude.{Result, Ok, Err, Some, None}
use mathlib.Core.Path.{◌≡◌, refl, sym, ap, ◌∙◌, subst}
use mathlib.Core.Bool.{Bool, true, false}
use mathlib.Core.List.{List, ◌++◌}
use Prim.Native.Nat.{ℕ, ◌-◌, ◌≤◌}
use native.Mathlib.Omega.{arith}
use lib.Dec.{leb}
use lib.ListN.{length, take, drop, length-take}
use lib.Seq.{take_at}
use borrow.Author.Tests.{le-leb, eq-eqb, ne_eqb}
use Rattle.refusal.specs.Result.{unless, map_ok, then}
use Rattle.refusal.specs.declared.Refusal.{Refusal}
use Rattle.refusal.specs.declared.Refusal.TheVariants.{NoRoom}
use Rattle.utf8.specs.Utf8.{is_utf8, decode}
use Rattle.utf8.specs.Limits.{text_limit, admitted}
use Rattle.utf8.proofs.Limits.{fits, admitted_refused}
use Rattle.status.specs.declared.StatusKind.{StatusKind}
use Rattle.status.specs.Status.{kind_of_word}
use Rattle.grammar.specs.Expr.{Expr}
use Rattle.grammar.specs.Bytes.{bytes_of}
use Rattle.grammar.specs.Reading.{expression}
use Rattle.grammar.specs.Status.{Stated, alone, stated, words, joined, after_word, of_words, status_reading}
use Rattle.grammar.specs.Outcome.{answer_of, written_of, StatusSaid, stated_bytes, status_answer}
use Rattle.grammar.proofs.Outcome.{answer_fits, written_fits}
use Rattle.lexer.specs.Runs.{first_word}
use Rattle.lexer.specs.declared.Span.{Span}
use Rattle.lexer.proofs.Told.{joined_bytes, joined_told, after_told, first_told}
use Rattle.reader.specs.Said.{tree_outcome, status_outcome}

-- an answer and the lent bytes are those of a status
abbrev pub Says : Result Stated Refusal → (old new : List ℕ) → Result StatusSaid Refusal → Type 0
Says x old new r = (r ≡ answer_of (status_outcome x) (length old)) × (new ≡ written_of (status_outcome x) old)

same_says : (x y : Result Stated Refusal) (old new : List ℕ) (r : Result StatusSaid Refusal) → x ≡ y → Says y old new r → Says x old new r
same_says x y old new r e h = subst (λ z. Says z old new r) (sym e) h

-- a refusal: nothing is written
pub refused_status : (x : Result Stated Refusal) (old : List ℕ) (why : Refusal) → x ≡ Err why → Says x old old (Err why)
unfolding answer_of written_of map_ok then
refused_status x old why e = (rw e, rw e)

alone_says : (k : StatusKind) (old : List ℕ) → Says (Ok (alone k)) old old (Ok (k, None))
unfolding map_ok
alone_says k old = let w = stated_bytes (alone k) in (sym (answer_fits w (length old) (omega arith)), sym (written_fits w old (omega arith)))

room-said : (k : StatusKind) (t : Bool) (n : ℕ) → unless {A = StatusSaid} t NoRoom (Ok (k, Some n)) ≡ map_ok (λ n. (k, Some n)) (unless t NoRoom (Ok n))
unfolding map_ok
room-said k true n = refl
room-said k false n = refl

tree-said : (k : StatusKind) (x : Result Expr Refusal) (n : ℕ) → answer_of (status_outcome (map_ok (stated k) x)) n ≡ map_ok (λ n. (k, Some n)) (answer_of (tree_outcome x) n)
unfolding answer_of map_ok then
tree-said k (Ok e) n = room-said k (leb (length (bytes_of e)) n) (length (bytes_of e))
tree-said k (Err j) n = refl

tree_written : (k : StatusKind) (x : Result Expr Refusal) (old : List ℕ) → written_of (status_outcome (map_ok (stated k) x)) old ≡ written_of (tree_outcome x) old
unfolding written_of map_ok
tree_written k (Ok e) old = refl
tree_written k (Err j) old = refl

tree_says : (k : StatusKind) (x : Result Expr Refusal) (old new : List ℕ) (r : Result ℕ Refusal)
    → (r ≡ answer_of (tree_outcome x) (length old)) × (new ≡ written_of (tree_outcome x) old) → Says (map_ok (stated k) x) old new (map_ok (λ n. (k, Some n)) r)
tree_says k x old new r h = (ap (map_ok (λ n. (k, Some n))) h.0 ∙ sym (tree-said k x (length old)), h.1 ∙ sym (tree_written k x old))

-- the joined words stand in front
pub joined_front : (t w old : List ℕ) (n : ℕ) → n ≡ length (joined_bytes t) → w ≡ joined_bytes t ++ drop n old → take n w ≡ joined_bytes t
joined_front t w old n size h = ap (take n) h ∙ take_at (joined_bytes t) (drop n old) n (sym size)

-- the words after a status word, t being what stands after it, and w the scratch
module _ (k : StatusKind) (t w : List ℕ) (n : ℕ) (size : n ≡ length (joined_bytes t)) (has : take n w ≡ joined_bytes t) where
  -- they are in the scratch
  pub joined-room : n ≤ length w
  joined-room = omega (arith, simp length-take at (ap length has), size)

  -- there are none
  pub word_alone_lem : (old : List ℕ) → n ≡ 0 → Says (after_word k (words (decode t))) old old (Ok (k, None))
  word_alone_lem old z = same_says _ _ old old _ (after_told k t ∙ rw (eq-eqb (length (joined_bytes t)) 0 (sym size ∙ z))) (alone_says k old)

  -- they are a text
  pub joined_utf8 : is_utf8 t ≡ true → is_utf8 (take n w) ≡ true
  joined_utf8 u = ap is_utf8 has ∙ (joined_told t u).0

  module _ (u : is_utf8 t ≡ true) (some : n ≡ 0 → ⊥) (old new : List ℕ) (o : Result ℕ Refusal)
      (h : (o ≡ answer_of (tree_outcome (expression (decode (take n w)))) (length old)) × (new ≡ written_of (tree_outcome (expression (decode (take n w)))) old)) where
    decoded : decode (take n w) ≡ joined (words (decode t))
    decoded = ap decode has ∙ (joined_told t u).1

    after_is : after_word k (words (decode t)) ≡ map_ok (stated k) (expression (decode (take n w)))
    after_is =
        after_told k t
        ∙ rw (ne_eqb (length (joined_bytes t)) 0 (λ z. some (size ∙ z)))
        (ap (λ x. map_ok (stated k) (expression x)) (sym decoded))

    says : Says (after_word k (words (decode t))) old new (map_ok (λ n. (k, Some n)) o)
    says = same_says _ _ old new _ after_is (tree_says k (expression (decode (take n w))) old new o h)

    -- they do not read as a tree, or it has no room
    pub word_refused : (why : Refusal) → o ≡ Err why → Says (after_word k (words (decode t))) old new (Err why)
    unfolding map_ok
    word_refused why e = subst (λ x. Says (after_word k (words (decode t))) old new (map_ok (λ n. (k, Some n)) x)) e says

    -- they read as a tree
    pub word-tree : (l : ℕ) → o ≡ Ok l → Says (after_word k (words (decode t))) old new (Ok (k, Some l))
    unfolding map_ok
    word-tree l e = subst (λ x. Says (after_word k (words (decode t))) old new (map_ok (λ n. (k, Some n)) x)) e says

-- a text's first word stands at w
pub record FirstAt (s : List ℕ) (w : Span) : Type 0 where
  pub order : w.from ≤ w.end
  pub room : w.end ≤ length s
  pub well : is_utf8 (drop w.end s) ≡ true
  pub is : of_words (words (decode s)) ≡ then (kind_of_word (take (w.end - w.from) (drop w.from s))) (λ k. after_word k (words (decode (drop w.end s))))

pub first-at : (s : List ℕ) (w : Span) → is_utf8 s ≡ true → w ≡ first_word s → FirstAt s w
first-at s w u e = let f = first_told s u in subst (FirstAt s) (sym e) (record { order = f.order; room = f.room; well = f.well; is = f.is })

-- by what the first word is
module _ (s : List ℕ) (w : Span) (f : FirstAt s w) (o : Result StatusKind Refusal) (a : o ≡ kind_of_word (take (w.end - w.from) (drop w.from s))) where
  decided : (x : Result StatusKind Refusal) → o ≡ x → of_words (words (decode s)) ≡ then x (λ k. after_word k (words (decode (drop w.end s))))
  decided x e = f.is ∙ ap (λ y. then y (λ k. after_word k (words (decode (drop w.end s))))) (sym a ∙ e)

  -- it is no status word
  pub no_word : (why : Refusal) → o ≡ Err why → of_words (words (decode s)) ≡ Err why
  unfolding then
  no_word why e = decided (Err why) e

  -- it is one
  pub is_word : (k : StatusKind) → o ≡ Ok k → (old new : List ℕ) (r : Result StatusSaid Refusal) → Says (after_word k (words (decode (drop w.end s)))) old new r
      → Says (of_words (words (decode s))) old new r
  unfolding then
  is_word k e old new r h = same_says _ _ old new r (decided (Ok k) e) h

by_status_lem : (s : List ℕ) (x : Result Stated Refusal) → status_reading s ≡ x → status_answer s ≡ status_outcome x
unfolding status_answer
by_status_lem s x h = ap (λ y. status_outcome y) h

module _ (s old : List ℕ) where
  -- the text is not admitted
  pub status_not-admitted : (why : Refusal) → ◌≡◌ {A = Result (Unit {0}) Refusal} (Err why) (admitted text_limit s (Ok tt)) → (Err why ≡ answer_of (status_answer s) (length old)) × (old ≡ written_of (status_answer s) old)
  unfolding status_reading
  status_not-admitted why a =
      let q : status_reading s ≡ Err why = admitted_refused text_limit s a refl (of_words (words (decode s))) in
      rw (by_status_lem s (Err why) q) (refused_status (Err why) old why refl)

  -- an admitted text reads as its words do
  pub status_admitted : (r : Result StatusSaid Refusal) (new : List ℕ) → length s ≤ text_limit → is_utf8 s ≡ true → Says (of_words (words (decode s))) old new r
      → (r ≡ answer_of (status_answer s) (length old)) × (new ≡ written_of (status_answer s) old)
  unfolding status_reading
  status_admitted r new short well h =
      let q : status_reading s ≡ of_words (words (decode s)) = fits text_limit s (of_words (words (decode s))) (le-leb (length s) text_limit short, well) in
      rw (by_status_lem s (of_words (words (decode s))) q) h
