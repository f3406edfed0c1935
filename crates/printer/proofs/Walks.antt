-- The print of a node, child by child. Assumes nothing.
use mathlib.Core.Path.{◌≡◌, refl, sym, ap, ◌∙◌}
use mathlib.Core.List.{List, [], ◌∷◌, ◌++◌, append_assoc, append-nil}
use mathlib.Core.Bool.{Bool, true, false}
use Prim.Native.Nat.{ℕ, ◌+◌, ◌-◌, ◌≤◌, ◌<◌}
use native.Mathlib.Omega.{arith}
use lib.ListN.{length, length-append}
use Rattle.fields.specs.Appended.{Appended}
use Rattle.fields.proofs.Appends as appends
use Rattle.grammar.specs.Expr.{And, Or, Xor, Expr, Exprs, cite, Then, join, none, ◌◂◌}
use Rattle.grammar.specs.Lex.{cite_end}
use Rattle.grammar.specs.Print.{in_bytes, printed, print, listed, links, bracketed, operand}
use Rattle.grammar.specs.Rows.{span, firsts, children}
use Rattle.grammar.specs.Bytes.{nodes, cites, is_tree, forest_at, tree_at}
use Rattle.grammar.specs.Kinds.{node_kind, sign_kind}
use Rattle.grammar.specs.declared.NodeKind.{NodeKind}
use Rattle.grammar.specs.declared.NodeKind.TheVariants.{Citation}
use Rattle.tree.specs.Walk.{number_at, text_at}
use Rattle.tree.proofs.Walks.{Walk, Next, leaf, children-at, walk_begins, walk_next}
use Rattle.printer.specs.Parts.{separator, separator_after, left_of, right_of}

-- the operands with a separator between them, or before each
unfoldable pub parts : (first : Bool) → NodeKind → Exprs → List ℕ
parts true k es = listed in_bytes (separator k) es
parts false k es = links in_bytes (separator k) es

operand_is : (e : Expr) (x : List ℕ) → operand in_bytes e ++ x ≡ left_of (node_kind e) ++ (printed e ++ (right_of (node_kind e) ++ x))
unfolding bracketed node_kind sign_kind
operand_is (cite t) x = refl
operand_is (Then es) x = refl
operand_is (join And es) x = ap (λ y. in_bytes.left ++ y) (append_assoc (printed (join And es)) in_bytes.right x)
operand_is (join Or es) x = ap (λ y. in_bytes.left ++ y) (append_assoc (printed (join Or es)) in_bytes.right x)
operand_is (join Xor es) x = ap (λ y. in_bytes.left ++ y) (append_assoc (printed (join Xor es)) in_bytes.right x)

parts_more : (f : Bool) (k : NodeKind) (e : Expr) (es : Exprs)
    → parts f k (e ◂ es) ≡ separator_after f k ++ (left_of (node_kind e) ++ (printed e ++ (right_of (node_kind e) ++ parts false k es)))
unfolding parts listed
parts_more true k e es = operand_is e (links in_bytes (separator k) es)
parts_more false k e es = ap (λ y. separator k ++ y) (operand_is e (links in_bytes (separator k) es))

parts_none : (f : Bool) (k : NodeKind) → parts f k none ≡ []
unfolding parts listed
parts_none true k = refl
parts_none false k = refl

print_inner : (e : Expr) → (node_kind e ≡ Citation → ⊥) → printed e ≡ parts true (node_kind e) (children e)
unfolding parts print node_kind children sign_kind
print_inner (cite t) h = absurd (h refl)
print_inner (Then es) h = refl
print_inner (join And es) h = refl
print_inner (join Or es) h = refl
print_inner (join Xor es) h = refl

print_cite : (t : List ℕ) → printed (cite t) ≡ in_bytes.word t
unfolding print
print_cite t = refl

-- a citation's print, by its row
pub record Word (b : List ℕ) (row number : ℕ) : Type 0 where
  pub inside : number < cites b
  pub is : printed (tree_at b row) ≡ in_bytes.word (text_at b number)
  pub room : length (printed (tree_at b row)) ≡ length (text_at b number) + 2

word_room : (t : List ℕ) → length (in_bytes.word t) ≡ length t + 2
word_room t = omega (arith, length-append t (cite_end ∷ []))

-- a citation's print
pub word : (b : List ℕ) → is_tree b ≡ true → (row : ℕ) (k : NodeKind) (number : ℕ) → row < nodes b → k ≡ node_kind (tree_at b row) → number ≡ number_at b row → k ≡ Citation → Word b row number
word b h row k number l ek en z =
    let f = leaf b h row l (sym ek ∙ z) in
    let is : printed (tree_at b row) ≡ in_bytes.word (text_at b number) = ap printed f.is ∙ print_cite _ ∙ ap (λ (x : ℕ). in_bytes.word (text_at b x)) (sym en) in
    record { inside = rw en f.number; is = is; room = ap length is ∙ word_room (text_at b number) }

-- the loop over the children: what is written, and the children that are left, of which the first may be the node's first
pub record State (b : List ℕ) (row at : ℕ) (base new : List ℕ) (k : NodeKind) (first : Bool) (left child w : ℕ) : Type 0 where
  pub text : List ℕ
  pub whole : printed (tree_at b row) ≡ text ++ parts first k (firsts left (forest_at b child))
  pub walk : Walk b row left child
  pub stands : Appended text at base new w
  pub long : length new ≡ length base

-- the child that is given
pub state_from : {b : List ℕ} {row at : ℕ} {base new : List ℕ} {k : NodeKind} {first : Bool} {left from child w : ℕ} → State b row at base new k first left from w → child ≡ from → State b row at base new k first left child w
state_from s e = rw e s

module _ (b : List ℕ) (tree : is_tree b ≡ true) where
  -- before the first child
  pub begins : (row at : ℕ) (base : List ℕ) (k : NodeKind) (m : ℕ) → row < nodes b → k ≡ node_kind (tree_at b row) → m ≡ number_at b row → (k ≡ Citation → ⊥) → State b row at base base k true m (row + 1) at
  begins row at base k m l ek em k0 =
      let no : node_kind (tree_at b row) ≡ Citation → ⊥ = λ q. k0 (ek ∙ q) in
      let kids : children (tree_at b row) ≡ firsts m (forest_at b (row + 1)) =
      (children-at b tree row l no).0 ∙ ap (λ (x : ℕ). firsts x (forest_at b (row + 1))) (sym em) in
      record {
        text = [];
        whole = rw (← kids, ek) (print_inner (tree_at b row) no);
        walk = rw em (walk_begins b tree row l no);
        stands = appends.nothing at base;
        long = refl;
      }

  -- the child that is next, and what its part of the print is
  pub record Turn (row : ℕ) (k : NodeKind) (first : Bool) (left child : ℕ) (text : List ℕ) : Type 0 where
    pub next : Next b row left child
    pub rest : List ℕ
    pub splits : printed (tree_at b row) ≡ text ++ (separator_after first k ++ (left_of (node_kind (tree_at b child)) ++ (printed (tree_at b child) ++ (right_of (node_kind (tree_at b child)) ++ rest))))
    pub is : rest ≡ parts false k (firsts (left - 1) (forest_at b (child + span (tree_at b child))))

  -- the child that is next
  pub turn : {row at : ℕ} {base new : List ℕ} {k : NodeKind} {first : Bool} {left child w : ℕ} (s : State b row at base new k first left child w) → 0 < left → Turn row k first left child s.text
  turn {row} {at} {base} {new} {k} {first} {left} {child} {w} s h =
      let n = walk_next b tree row left child s.walk h in
      let rest = firsts (left - 1) (forest_at b (child + span (tree_at b child))) in
      record {
        next = n;
        rest = parts false k rest;
        splits =
            s.whole ∙ ap (λ x. s.text ++ parts first k x) n.splits ∙ ap (λ x. s.text ++ x) (parts_more first k (tree_at b child) rest);
        is = refl;
      }

five : (a b c d e f : List ℕ) → length (a ++ (b ++ (c ++ (d ++ (e ++ f))))) ≡ length a + (length b + (length c + (length d + (length e + length f))))
five a b c d e f =
    rw (length-append a (b ++ (c ++ (d ++ (e ++ f)))), length-append b (c ++ (d ++ (e ++ f))), length-append c (d ++ (e ++ f)), length-append d (e ++ f), length-append e f)

module _ (b : List ℕ) (tree : is_tree b ≡ true) {row at : ℕ} {base new : List ℕ} {k : NodeKind} {first : Bool} {left child w : ℕ} (s : State b row at base new k first left child w) (h : 0 < left) where
  -- how long the parts are
  pub lengths : (j : NodeKind) → j ≡ node_kind (tree_at b child)
      → length s.text + (length (separator_after first k) + (length (left_of j) + (length (printed (tree_at b child)) + length (right_of j)))) ≤ length (printed (tree_at b row))
  lengths j ej =
      let n = turn b tree s h in
      let all = ap length n.splits ∙ five s.text (separator_after first k) (left_of (node_kind (tree_at b child))) (printed (tree_at b child)) (right_of (node_kind (tree_at b child))) n.rest in
      rw ej (omega (arith, all))

  -- after a child
  pub again : (j : NodeKind) → j ≡ node_kind (tree_at b child) → {l₁ l₂ l₃ l₄ : List ℕ} {w₁ w₂ w₃ w₄ : ℕ}
      → Appended (separator_after first k) w new l₁ w₁ → Appended (left_of j) w₁ l₁ l₂ w₂ → Appended (printed (tree_at b child)) w₂ l₂ l₃ w₃ → Appended (right_of j) w₃ l₃ l₄ w₄
      → length l₄ ≡ length new → State b row at base l₄ k false (left - 1) (child + span (tree_at b child)) w₄
  again j ej {l₁} {l₂} {l₃} {l₄} {w₁} {w₂} {w₃} {w₄} p₁ p₂ p₃ p₄ l =
      let n = turn b tree s h in
      let of = node_kind (tree_at b child) in
      let text = separator_after first k ++ (left_of of ++ (printed (tree_at b child) ++ right_of of)) in
      let put : Appended text w new l₄ w₄ = appends.both p₁ (appends.both (appends.same (ap left_of ej) p₂) (appends.both p₃ (appends.same (ap right_of ej) p₄))) in
      record {
        text = s.text ++ text;
        whole = rw (← n.is) (n.splits ∙ simp append_assoc);
        walk = n.next.walk;
        stands = appends.both s.stands put;
        long = l ∙ s.long;
      }

-- after the last child
pub finish : (b : List ℕ) {row at : ℕ} {base new : List ℕ} {k : NodeKind} {first : Bool} {left child w : ℕ} → State b row at base new k first left child w → left ≡ 0 → Appended (printed (tree_at b row)) at base new w
unfolding firsts
finish b {row} {at} {base} {new} {k} {first} {left} {child} {w} s h = appends.same (sym (s.whole ∙ rw h (ap (λ x. s.text ++ x) (parts_none first k) ∙ append-nil s.text))) s.stands
