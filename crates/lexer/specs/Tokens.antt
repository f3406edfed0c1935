-- What the lexer answers and writes: counts, kinds of tokens, places of citations. Assumes nothing.
use Rattle.std.specs.Prelude.{ℕ, suc, pred, cond, ◌&&◌, List, [], ◌∷◌, leb, ltb, length, take, drop, Result, Ok}
use Rattle.refusal.specs.declared.Refusal.{Refusal}
use Rattle.refusal.specs.Result.{unless, then}
use Rattle.refusal.specs.declared.Refusal.TheVariants.{Empty, TooManyCitations, TooDeep}
use Rattle.grammar.specs.Expr as expr
use Rattle.grammar.specs.Expr.{Op, concat}
use Rattle.grammar.specs.Lex.{Tok, cited, op, opening, closing, Part, bracket, sign, left, right, space, stray, lex, texts}
use Rattle.grammar.specs.Reading.{citation_limit, cited_limit, open_limit, some_token, few, shallow}
use Rattle.lexer.specs.declared.Count.{Count}
use Rattle.lexer.specs.declared.TokenKind.{TokenKind}
use Rattle.lexer.specs.declared.TokenKind.TheVariants.{Citation, And, Or, Xor, Opening, Closing}
use Rattle.lexer.specs.declared.Meaning.{Meaning}
use Rattle.lexer.specs.declared.Meaning.TheVariants.{Bracket, Mark, White, Stray}
use Rattle.lexer.specs.declared.Lexed.{Lexed}
use Rattle.lexer.specs.declared.Place.{Place}

-- an operator's kind
unfoldable pub sign_token : Op → TokenKind
sign_token expr.And = And
sign_token expr.Or = Or
sign_token expr.Xor = Xor

-- a token's kind
unfoldable pub kind_of : Tok → TokenKind
kind_of (cited t) = Citation
kind_of (op o) = sign_token o
kind_of opening = Opening
kind_of closing = Closing

-- the kinds of tokens
unfoldable pub kinds_of : List Tok → List TokenKind
kinds_of [] = []
kinds_of (t ∷ ts) = kind_of t ∷ kinds_of ts

-- what a character outside a citation is
unfoldable pub meaning : Part → Meaning
meaning bracket = Bracket
meaning (sign o) = Mark (sign_token o)
meaning left = Mark Opening
meaning right = Mark Closing
meaning space = White
meaning stray = Stray

-- the open parentheses after a token of a kind; once they are too many, that stays
abbrev pub deeper : ℕ → TokenKind → ℕ
deeper d Opening = cond (ltb open_limit d) d (suc d)
deeper d Closing = cond (ltb open_limit d) d (pred d)
deeper d k = d

-- the same after tokens
unfoldable pub depth : ℕ → List Tok → ℕ
depth d [] = d
depth d (t ∷ ts) = depth (deeper d (kind_of t)) ts

-- the counts of tokens, of citations and of the bytes in them
abbrev pub counted : List Tok → Lexed
counted ts = record { tokens = length ts; cites = length (texts ts); bytes = length (concat (texts ts)) }

-- tokens that pass the tests before parsing: 6, 12, 13
unfoldable pub limited : List Tok → Result (List Tok) Refusal
limited ts = unless (some_token ts) Empty (unless (few (texts ts)) TooManyCitations (unless (shallow open_limit 0 ts) TooDeep (Ok ts)))

-- the tokens of characters, ready to be parsed: the leftmost of 1, 2, 3 first
unfoldable pub tokenized : List ℕ → Result (List Tok) Refusal
tokenized cs = then (lex cs) limited

-- the tests 6, 12, 13 on counts
unfoldable pub counts_limited : Count → Result Lexed Refusal
counts_limited p =
    unless (ltb 0 p.tokens) Empty
    (unless (leb p.cites citation_limit && leb p.bytes cited_limit) TooManyCitations
    (unless (leb p.depth open_limit) TooDeep (Ok (record { tokens = p.tokens; cites = p.cites; bytes = p.bytes }))))

-- a part of a text: where it starts, and its length
abbrev pub placed : (from size : ℕ) → Place
placed from size = record { from = from; size = size }

-- the bytes at a place
abbrev pub cut : List ℕ → Place → List ℕ
cut s v = take v.size (drop v.from s)

-- the bytes at places
unfoldable pub cuts : List ℕ → List Place → List (List ℕ)
cuts s [] = []
cuts s (v ∷ vs) = cut s v ∷ cuts s vs
