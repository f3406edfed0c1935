-- The violations' numbers and texts. Assumes nothing.
use mathlib.Core.Path.{◌≡◌, refl, sym, ap, ◌∙◌, subst}
use mathlib.Core.List.{List, [], ◌∷◌, ◌++◌, append_assoc, append-nil}
use mathlib.Core.Bool.{Bool, true, false, cond}
use Prim.Native.Nat.{ℕ, zero, suc, ◌+◌, ◌-◌, ◌*◌, ◌≤◌, ◌<◌}
use native.Mathlib.Nat.{add-zero}
use native.Mathlib.Omega.{arith}
use lib.ListN.{length, get_or, drop, length-append}
use lib.Seq.{drop-drop, drop-append_seam, get_or-drop}
use Rattle.laws.specs.Tests.{cond_both}
use Rattle.grammar.specs.Expr.{Expr, Exprs, cite, Then, join, none, more, citations, citations_of, count, concat}
use Rattle.grammar.proofs.Bounds.{concat_append}
use Rattle.grammar.specs.Lex.{blank_char}
use Rattle.grammar.specs.Reading.{citation_limit, Fits}
use Rattle.grammar.specs.Bytes.{two_bytes, field, cites, texts_in}
use Rattle.grammar.specs.Pack.{got}
use Rattle.semantics.specs.Truth.{Counts}
use Rattle.semantics.specs.Violations.{fails, violations_with, violations_of, number_bytes}
use Rattle.semantics.proofs.Sizes.{violations_fit}
use Rattle.fields.specs.Appended.{Appended}
use Rattle.fields.proofs.Appends.{both, same}
use Rattle.tree.specs.Walk.{text_at}
use Rattle.line.specs.Sizes.{longest_named}
use Rattle.line.specs.Lines.{named}
use Rattle.line.specs.Parts.{numbers_from, AllBelow}

-- numbers read back from their bytes
pub numbers_got : (b x ns : List ℕ) (at : ℕ) → drop at b ≡ number_bytes ns ++ x → numbers_from b (length ns) at ≡ ns
unfolding number_bytes numbers_from
numbers_got b x [] at h = refl
numbers_got b x (n ∷ ns) at h =
    let g = got b (number_bytes ns ++ x) at n (h ∙ append_assoc (two_bytes n) (number_bytes ns) x) in
    rw (g.0, numbers_got b x ns (at + 2) g.1)

all_append : (m : ℕ) (a b : List ℕ) → AllBelow m a → AllBelow m b → AllBelow m (a ++ b)
all_append m [] b h k = k
all_append m (n ∷ a) b h k = (h.0, all_append m a b h.1 k)

named_append : (texts : List (List ℕ)) (a b : List ℕ) → named texts (a ++ b) ≡ named texts a ++ named texts b
unfolding named
named_append texts [] b = refl
named_append texts (n ∷ a) b =
    ap (λ x. blank_char ∷ (get_or texts n [] ++ x)) (named_append texts a b) ∙ ap (λ x. blank_char ∷ x) (sym (append_assoc (get_or texts n []) (named texts a) (named texts b)))

one_below : (m n : ℕ) (t : Bool) → n < m → AllBelow m (cond t (n ∷ []) [])
one_below m n true h = (h, tt)
one_below m n false h = tt

one_size : (texts : List (List ℕ)) (n : ℕ) (t : List ℕ) (b : Bool) → get_or texts n [] ≡ t → length (named texts (cond b (n ∷ []) [])) ≤ length t + 1
unfolding named
one_size texts n t true e = omega (arith, ap length e, length-append (get_or texts n []) [])
one_size texts n t false e = omega arith

text_here : (texts : List (List ℕ)) (n : ℕ) (t : List ℕ) (rest : List (List ℕ)) → drop n texts ≡ t ∷ rest → get_or texts n [] ≡ t
text_here texts n t rest h = sym (rw add-zero at (get_or-drop n texts 0 [])) ∙ rw h

module _ (counts : Counts) where
  -- numbers that stand only after a test
  below_if : (m : ℕ) (b : Bool) (ns : List ℕ) → AllBelow m ns → AllBelow m (cond b ns [])
  below_if m b ns h = cond_both (AllBelow m) b ns [] (λ _. h) (λ _. tt)

  mutual
    unfolding violations_with citations

    violations_below : (m n : ℕ) (e : Expr) → n + count e ≤ m → AllBelow m (violations_with counts n e)
    violations_below m n (cite t) h = one_below m n (fails counts n (cite t)) (omega arith)
    violations_below m n (Then es) h = below_if m (fails counts n (Then es)) (violations_of counts n es) (violations_belows m n es h)
    violations_below m n (join o es) h = below_if m (fails counts n (join o es)) (violations_of counts n es) (violations_belows m n es h)

    violations_belows : (m n : ℕ) (es : Exprs) → n + length (citations_of es) ≤ m → AllBelow m (violations_of counts n es)
    violations_belows m n none h = tt
    violations_belows m n (more e es) h =
        let l = length-append (citations e) (citations_of es) in
        all_append m (violations_with counts n e) (violations_of counts (n + count e) es)
        (violations_below m n e (omega (arith, l))) (violations_belows m (n + count e) es (omega (arith, l)))

  module _ (texts : List (List ℕ)) where
    named_none : (most : ℕ) → length (named texts []) ≤ most
    unfolding named
    named_none most = omega arith

    named_if : (b : Bool) (ns : List ℕ) (most : ℕ) → length (named texts ns) ≤ most → length (named texts (cond b ns [])) ≤ most
    named_if b ns most h = cond_both (λ (l : List ℕ). length (named texts l) ≤ most) b ns [] (λ _. h) (λ _. named_none most)

    mutual
      unfolding violations_with citations concat

      named_size : (n : ℕ) (e : Expr) (rest : List (List ℕ)) → drop n texts ≡ citations e ++ rest → length (named texts (violations_with counts n e)) ≤ length (concat (citations e)) + count e
      named_size n (cite t) rest h = omega (arith, one_size texts n t (fails counts n (cite t)) (text_here texts n t rest h), length-append t [])
      named_size n (Then es) rest h = named_if (fails counts n (Then es)) (violations_of counts n es) _ (named_sizes n es rest h)
      named_size n (join o es) rest h = named_if (fails counts n (join o es)) (violations_of counts n es) _ (named_sizes n es rest h)

      named_sizes : (n : ℕ) (es : Exprs) (rest : List (List ℕ)) → drop n texts ≡ citations_of es ++ rest → length (named texts (violations_of counts n es)) ≤ length (concat (citations_of es)) + length (citations_of es)
      named_sizes n none rest h = named_none _
      named_sizes n (more e es) rest h =
          let first = h ∙ append_assoc (citations e) (citations_of es) rest in
          let later = sym (drop-drop (count e) n texts) ∙ ap (drop (count e)) first ∙ drop-append_seam (citations e) (citations_of es ++ rest) in
          omega (
            arith,
            named_size n e (citations_of es ++ rest) first,
            named_sizes (n + count e) es rest later,
            length-append (citations e) (citations_of es),
            ap length (concat_append (citations e) (citations_of es)),
            length-append (concat (citations e)) (concat (citations_of es)),
            ap length (named_append texts (violations_with counts n e) (violations_of counts (n + count e) es)),
            length-append (named texts (violations_with counts n e)) (named texts (violations_of counts (n + count e) es)),
          )

  -- what holds of the violations
  pub record Listed (e : Expr) (ns : List ℕ) : Type 0 where
    pub few : length ns ≤ citation_limit
    pub below : AllBelow (count e) ns
    pub small : length (named (citations e) ns) ≤ longest_named

  pub listed : (e : Expr) → Fits e → Listed e (violations_with counts 0 e)
  listed e f = record {
    few = violations_fit counts e f;
    below = violations_below (count e) 0 e (omega arith);
    small = omega (arith, named_size (citations e) 0 e [] (sym (append-nil (citations e))), f.few, f.small);
  }

numbers_first : (list : List ℕ) (left from : ℕ) → 0 < left → numbers_from list left from ≡ field list from ∷ numbers_from list (left - 1) (from + 2)
unfolding numbers_from
numbers_first list zero from h = absurd (omega arith)
numbers_first list (suc left) from h = let z : left ≡ suc left - 1 = omega arith in ap (λ (x : ℕ). field list from ∷ numbers_from list x (from + 2)) z

numbers_none : (list : List ℕ) (left from : ℕ) → left ≤ 0 → numbers_from list left from ≡ []
unfolding numbers_from
numbers_none list zero from h = refl
numbers_none list (suc left) from h = absurd (omega arith)

named-first : (b : List ℕ) (n : ℕ) (ns : List ℕ) → named (texts_in b) (n ∷ ns) ≡ (blank_char ∷ text_at b n) ++ named (texts_in b) ns
unfolding named text_at
named-first b n ns = refl

named_nil : (texts : List (List ℕ)) → named texts [] ≡ []
unfolding named
named_nil texts = refl

-- so many texts are left to write
pub record Going (b list : List ℕ) (count at : ℕ) (base out : List ℕ) (left from w : ℕ) : Type 0 where
  pub done : List ℕ
  pub all : named (texts_in b) (numbers_from list count 0) ≡ done ++ named (texts_in b) (numbers_from list left from)
  pub written : Appended done at base out w
  pub kept : length out ≡ length base
  pub below : AllBelow (cites b) (numbers_from list left from)
  pub place : from + 2 * left ≤ length list

module _ {b list : List ℕ} {count at : ℕ} {base out : List ℕ} {left from w : ℕ} (s : Going b list count at base out left from w) where
  module _ (h : 0 < left) where
    split : named (texts_in b) (numbers_from list left from) ≡ (blank_char ∷ text_at b (field list from)) ++ named (texts_in b) (numbers_from list (left - 1) (from + 2))
    split = ap (named (texts_in b)) (numbers_first list left from h) ∙ named-first b (field list from) (numbers_from list (left - 1) (from + 2))

    both_below : AllBelow (cites b) (field list from ∷ numbers_from list (left - 1) (from + 2))
    both_below = subst (AllBelow (cites b)) (numbers_first list left from h) s.below

    -- the next one is a citation's, and there is room for it
    pub going_room : (n : ℕ) → n ≡ field list from → at + length (named (texts_in b) (numbers_from list count 0)) ≤ length base → (n < cites b) × (w + (length (text_at b n) + 1) ≤ length out)
    going_room n e room =
        let rest = named (texts_in b) (numbers_from list (left - 1) (from + 2)) in
        let here = blank_char ∷ text_at b (field list from) in
        (omega (arith, both_below.0, e), omega (arith, room, s.kept, s.written.ends, ap (λ (x : ℕ). length (text_at b x)) e, ap length s.all, length-append s.done (named (texts_in b) (numbers_from list left from)), ap length split, length-append here rest))

    -- after it
    pub going_next : (n : ℕ) {new : List ℕ} {q : ℕ} → n ≡ field list from → Appended (blank_char ∷ text_at b n) w out new q → length new ≡ length out → Going b list count at base new (left - 1) (from + 2) q
    going_next n {new} {q} e a k =
        let here = blank_char ∷ text_at b (field list from) in
        let rest = named (texts_in b) (numbers_from list (left - 1) (from + 2)) in
        record {
          done = s.done ++ here;
          all = s.all ∙ ap (λ x. s.done ++ x) split ∙ sym (append_assoc s.done here rest);
          written = both s.written (same (ap (λ (x : ℕ). blank_char ∷ text_at b x) e) a);
          kept = k ∙ s.kept;
          below = both_below.1;
          place = omega (arith, s.place);
        }

  -- after the last
  pub going_end : left ≤ 0 → Appended (named (texts_in b) (numbers_from list count 0)) at base out w
  going_end h =
      same (sym (s.all ∙ ap (λ x. s.done ++ named (texts_in b) x) (numbers_none list left from h) ∙ ap (λ x. s.done ++ x) (named_nil (texts_in b)) ∙ append-nil s.done)) s.written
