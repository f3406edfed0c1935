-- What holds of reading, printing, flat trees and tree bytes. Assumes nothing.
use Rattle.std.specs.Prelude.{◌≡◌, List, ◌↔◌, true, ℕ, ◌+◌, ◌*◌, ◌≤◌, length, Ok, Err}
use Rattle.std.proofs.Common.{sym, ap, ◌∙◌, arith}
use Rattle.refusal.specs.declared.Refusal.TheVariants.{Empty}
use Rattle.utf8.specs.Utf8.{decode}
use Rattle.grammar.specs.Expr.{Expr, citations, count, concat}
use Rattle.grammar.specs.Lex.{lex}
use Rattle.grammar.specs.Print.{in_tokens, in_bytes, print, printed}
use Rattle.grammar.specs.Flat.{flat}
use Rattle.grammar.proofs.Flat.{print_flat}
use Rattle.grammar.specs.Reading.{shallow, reading, Fits, node_limit, print_limit}
use Rattle.grammar.proofs.Reading.{reading_fits}
use Rattle.grammar.proofs.LexPrint.{print_lexed}
use Rattle.grammar.proofs.Bounds as bounds
use Rattle.grammar.proofs.PrintRead as back
use Rattle.grammar.proofs.PrintRead.{printed-read, alike}
use Rattle.status.specs.declared.StatusKind.{StatusKind}
use Rattle.grammar.specs.Status.{stated, status_reading}
use Rattle.grammar.proofs.StatusLaws.{status_states}
use Rattle.grammar.proofs.Never as never
use Rattle.grammar.specs.Rows.{span}
use Rattle.grammar.specs.Bytes.{head_size, row_size, cite_size, bytes_of, is_tree, tree_of, tree_limit}
use Rattle.grammar.specs.Pack.{IsBytes}
use Rattle.grammar.proofs.Trees as trees
use Rattle.grammar.proofs.Sizes as sizes

-- the flat tree fits
pub flat_fits : (e : Expr) → Fits e → Fits (flat e)
flat_fits = back.flat_fits

-- no print is longer than 4,343 bytes
pub print_short : (e : Expr) → Fits e → length (printed e) ≤ print_limit
print_short = bounds.print_short

-- a print is at most 254 parentheses deep
pub print_shallow : (e : Expr) → Fits e → (lex (decode (printed e)) ≡ Ok (print in_tokens e)) × (shallow 254 0 (print in_tokens e) ≡ true)
print_shallow e f = (print_lexed e f.citable, bounds.print_shallow 254 e f.wide (omega (arith, f.few)))

-- the bytes of an expression are a tree, and determine it
pub tree_of_bytes : (e : Expr) → Fits e → tree_of (bytes_of e) ≡ Ok e
tree_of_bytes = trees.tree_of_bytes

-- the bytes of an expression pass the test
pub is_tree_lem : (e : Expr) → Fits e → is_tree (bytes_of e) ≡ true
is_tree_lem = trees.is_tree_lem

-- what bytes are a tree of, they are the bytes of, and it fits
pub tree_is_bytes : (b : List ℕ) → IsBytes b → (e : Expr) → tree_of b ≡ Ok e → (bytes_of e ≡ b) × Fits e
tree_is_bytes = trees.tree_is_bytes

-- bytes are a tree of an expression exactly if it fits and they are its bytes: the encoder and the limits say what a tree is
pub tree_exactly : (b : List ℕ) → IsBytes b → (e : Expr) → (tree_of b ≡ Ok e) ↔ (Fits e × (bytes_of e ≡ b))
tree_exactly b i e = (
  λ h. let t = tree_is_bytes b i e h in (t.1, t.0),
  λ h. ap tree_of (sym h.1) ∙ tree_of_bytes e h.0,
)

-- the length of tree bytes
pub bytes-length : (e : Expr) → length (bytes_of e) ≡ head_size + row_size * span e + cite_size * count e + length (concat (citations e))
bytes-length = sizes.bytes-length

-- at most 511 nodes
pub few-nodes : (e : Expr) → Fits e → span e ≤ node_limit
few-nodes = sizes.few-nodes

-- at most 6,150 bytes
pub few_bytes : (e : Expr) → Fits e → length (bytes_of e) ≤ tree_limit
few_bytes = sizes.few_bytes

-- expressions with the same bytes are the same
pub bytes_alike : (a b : Expr) → Fits a → Fits b → bytes_of a ≡ bytes_of b → a ≡ b
bytes_alike a b fa fb h = let same : Ok a ≡ Ok b = sym (tree_of_bytes a fa) ∙ ap tree_of h ∙ tree_of_bytes b fb in cc

-- a tree is the bytes of exactly one expression that fits
pub tree_of_one : (b : List ℕ) → IsBytes b → is_tree b ≡ true
    → (e : Expr) × Fits e × (bytes_of e ≡ b) × ((f : Expr) → Fits f → bytes_of f ≡ b → f ≡ e)
tree_of_one b i h =
    let s = trees.tested b i h in
    (s.expr, s.fits, sym s.is, λ f k g. bytes_alike f s.expr k s.fits (g ∙ s.is))

-- what a text reads as fits, so it has tree bytes
pub read_fits : (s : List ℕ) (e : Expr) → reading s ≡ Ok e → Fits e
read_fits = reading_fits

-- so does what is read after a status word
pub status_fits : (s : List ℕ) (k : StatusKind) (e : Expr) → status_reading s ≡ Ok (stated k e) → Fits e
status_fits s k e h = let w = status_states s k e h in read_fits _ e w.reads

-- the print of a tree reads as its flat tree
pub read-printed : (e : Expr) → Fits e → reading (printed e) ≡ Ok (flat e)
read-printed = printed-read

-- prints are alike exactly when the bytes of the flat trees are
pub printed_alike : (a b : Expr) → Fits a → Fits b → (printed a ≡ printed b) ↔ (bytes_of (flat a) ≡ bytes_of (flat b))
printed_alike a b fa fb =
    let same = alike a b fa fb in (
      λ h. ap bytes_of (same.0 h),
      λ h. same.1 (bytes_alike (flat a) (flat b) (flat_fits a fa) (flat_fits b fb) h),
    )

-- flattening again changes nothing
pub flat_again : (e : Expr) → Fits e → flat (flat e) ≡ flat e
flat_again e f = (alike (flat e) e (flat_fits e f) f).0 (print_flat in_bytes e f.wide)

-- a status is never turned back with 6
pub status_never_empty : (s : List ℕ) → status_reading s ≡ Err Empty → ⊥
status_never_empty = never.status_never_empty
