-- Reading what was printed. Assumes nothing.
use Rattle.std.specs.Prelude.{◌≡◌, refl, List, [], ◌∷◌, ◌↔◌, true, length, Ok}
use Rattle.std.proofs.Common.{sym, ap, ◌∙◌, arith, le-leb}
use Rattle.refusal.specs.Result.{err≢ok, then}
use Rattle.utf8.specs.Limits.{text_limit}
use Rattle.utf8.specs.Utf8.{decode}
use Rattle.utf8.proofs.Limits.{fits}
use Rattle.grammar.specs.Expr.{Expr}
use Rattle.grammar.specs.Lex.{Tok}
use Rattle.grammar.specs.Parse.{parse, read}
use Rattle.grammar.specs.Print.{in_tokens, in_bytes, print, printed}
use Rattle.grammar.specs.Flat.{flat}
use Rattle.grammar.proofs.Flat.{citations_flat, wide_flat, print_flat}
use Rattle.grammar.proofs.Steps.{ok_same}
use Rattle.grammar.proofs.Cites.{parse-cites}
use Rattle.grammar.proofs.Round.{round}
use Rattle.grammar.proofs.LexPrint.{print_lexes, print_lexed}
use Rattle.grammar.specs.Reading.{some_token, tree, expression, reading, Fits, open_limit}
use Rattle.grammar.proofs.Reading.{fits_few}
use Rattle.grammar.proofs.Bounds.{print_shallow, print_short}

parse_some : (ts : List Tok) (e : Expr) → parse ts ≡ Ok e → some_token ts ≡ true
unfolding parse some_token read
parse_some [] e h = absurd (err≢ok h)
parse_some (t ∷ ts) e h = refl

-- the flat tree fits
pub flat_fits : (e : Expr) → Fits e → Fits (flat e)
flat_fits e f = record {
  wide = wide_flat e f.wide;
  few = rw (citations_flat e) f.few;
  small = rw (citations_flat e) f.small;
  citable = rw (citations_flat e) f.citable;
}

tree-printed : (e : Expr) → Fits e → tree (print in_tokens e) ≡ Ok (flat e)
unfolding tree
tree-printed e f =
    let r = round e f.wide in
    rw (parse_some (print in_tokens e) (flat e) r, ← parse-cites (print in_tokens e) (flat e) r, fits_few (flat e) (flat_fits e f), print_shallow open_limit e f.wide (omega (arith, f.few)))
    r

-- the print of a tree reads as its flat tree
pub printed-read : (e : Expr) → Fits e → reading (printed e) ≡ Ok (flat e)
unfolding reading expression then
printed-read e f =
    fits text_limit (printed e) (expression (decode (printed e))) (le-leb (length (printed e)) text_limit (omega (arith, print_short e f)), (print_lexes e f.citable).valid)
    ∙ rw (print_lexed e f.citable) (tree-printed e f)

-- two trees print alike exactly when their flat trees are alike
pub alike : (a b : Expr) → Fits a → Fits b → (printed a ≡ printed b) ↔ (flat a ≡ flat b)
alike a b fa fb = (
  λ h. ok_same (flat a) (flat b) (sym (printed-read a fa) ∙ ap reading h ∙ printed-read b fb),
  λ h. sym (print_flat in_bytes a fa.wide) ∙ ap printed h ∙ print_flat in_bytes b fb.wide,
)
