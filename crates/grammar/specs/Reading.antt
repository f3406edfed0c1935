-- Reading a text as an expression, with the refusals in their order. Assumes nothing.
use Rattle.std.specs.Prelude.{◌≡◌, List, [], ◌∷◌, Bool, true, false, ◌&&◌, ℕ, suc, pred, ◌+◌, ◌-◌, ◌*◌, ◌≤◌, leb, ltb, length, Result, Ok}
use Rattle.refusal.specs.declared.Refusal.{Refusal}
use Rattle.refusal.specs.Result.{unless, then}
use Rattle.refusal.specs.declared.Refusal.TheVariants.{Empty, TooManyCitations, TooDeep}
use Rattle.utf8.specs.Utf8.{decode}
use Rattle.utf8.specs.Limits.{text_limit, admitted}
use Rattle.grammar.specs.Expr.{Expr, concat, Wide, citations, count}
use Rattle.grammar.specs.Lex.{Tok, cited, op, opening, closing, lex, texts}
use Rattle.grammar.specs.Citable.{AllCitable}
use Rattle.grammar.specs.Parse.{parse}

-- most citations
abbrev pub citation_limit : ℕ
citation_limit = 256

-- most bytes in the citations
abbrev pub cited_limit : ℕ
cited_limit = 2048

-- most parentheses open at a time
abbrev pub open_limit : ℕ
open_limit = 256

-- most nodes: those of the citations, and fewer above them
abbrev pub node_limit : ℕ
node_limit = 2 * citation_limit - 1

-- most bytes of a print: the texts, and for each citation but one nine bytes of brackets, parentheses and signs
abbrev pub print_limit : ℕ
print_limit = cited_limit + 9 * (citation_limit - 1)

-- there are tokens
unfoldable pub some_token : List Tok → Bool
some_token [] = false
some_token (t ∷ ts) = true

-- these citations are not too many, and their bytes neither
unfoldable pub few : List (List ℕ) → Bool
few ts = leb (length ts) citation_limit && leb (length (concat ts)) cited_limit

-- at most so many parentheses are open at a time, n at the start; the count never falls below 0
unfoldable pub shallow : (most n : ℕ) → List Tok → Bool
shallow most n [] = true
shallow most n (cited t ∷ ts) = shallow most n ts
shallow most n (op o ∷ ts) = shallow most n ts
shallow most n (opening ∷ ts) = ltb n most && shallow most (suc n) ts
shallow most n (closing ∷ ts) = shallow most (pred n) ts

-- the expression of tokens: 6, 12, 13, then the first met of 4 and 5
unfoldable pub tree : List Tok → Result Expr Refusal
tree ts = unless (some_token ts) Empty (unless (few (texts ts)) TooManyCitations (unless (shallow open_limit 0 ts) TooDeep (parse ts)))

-- the expression of characters: the leftmost of 1, 2, 3 first
unfoldable pub expression : List ℕ → Result Expr Refusal
expression cs = then (lex cs) tree

-- the expression that a text reads as: 10 and 11 first
unfoldable pub reading : List ℕ → Result Expr Refusal
reading s = admitted text_limit s (expression (decode s))

-- the expressions that have tree bytes: two operands or more in inner nodes, citable texts, not too many and not too long
pub record Fits (e : Expr) : Type 0 where
  pub wide : Wide e
  pub few : count e ≤ citation_limit
  pub small : length (concat (citations e)) ≤ cited_limit
  pub citable : AllCitable (citations e)

-- what characters that were read gave
pub record Gave (cs : List ℕ) (e : Expr) : Type 0 where
  pub toks : List Tok
  pub lexed : lex cs ≡ Ok toks
  pub limited : few (texts toks) ≡ true
  pub parsed : parse toks ≡ Ok e
