-- From characters to tokens. Assumes nothing.
use Rattle.std.specs.Prelude.{List, [], ◌∷◌, ◌++◌, Bool, true, false, cond, ◌&&◌, ℕ, eqb, Result, Ok, Err}
use Rattle.refusal.specs.declared.Refusal.{Refusal}
use Rattle.refusal.specs.Result.{map_ok}
use Rattle.refusal.specs.declared.Refusal.TheVariants.{Stray, Unterminated, EmptyCondition}
use Rattle.utf8.specs.Utf8.{encode}
use Rattle.utf8.specs.White.{is_white}
use Rattle.grammar.specs.Expr.{Op, And, Or, Xor}

-- a token: a citation with the bytes of its text, an operator, a parenthesis
pub data Tok : Type 0 where
  cited : List ℕ → Tok
  op : Op → Tok
  opening closing : Tok

-- the character that begins a citation
abbrev pub cite_begin : ℕ
cite_begin = 0x5B

-- the character that ends a citation
abbrev pub cite_end : ℕ
cite_end = 0x5D

-- the character that begins a group
abbrev pub group_begin : ℕ
group_begin = 0x28

-- the character that ends a group
abbrev pub group_end : ℕ
group_end = 0x29

-- the space that is printed
abbrev pub blank_char : ℕ
blank_char = 0x20

-- an operator's character
unfoldable pub symbol : Op → ℕ
symbol And = 0x2227
symbol Or = 0x2228
symbol Xor = 0x22BB

-- white space only, or nothing
unfoldable pub blank : List ℕ → Bool
blank [] = true
blank (c ∷ cs) = is_white c && blank cs

-- what a character is, outside a citation
pub data Part : Type 0 where
  bracket : Part
  sign : Op → Part
  left right space stray : Part

-- a character's part
unfoldable pub part : ℕ → Part
part c =
    cond (eqb c cite_begin) bracket
    (cond (eqb c group_begin) left
    (cond (eqb c group_end) right
    (cond (eqb c (symbol And)) (sign And)
    (cond (eqb c (symbol Or)) (sign Or)
    (cond (eqb c (symbol Xor)) (sign Xor)
    (cond (is_white c) space stray))))))

-- one token before the others
abbrev pub also : Tok → Result (List Tok) Refusal → Result (List Tok) Refusal
also t r = map_ok (λ ts. t ∷ ts) r

-- a character outside a citation: `within` is what comes of the rest inside one, `rest` what comes of it outside
unfoldable pub outer : Part → (within rest : Result (List Tok) Refusal) → Result (List Tok) Refusal
outer bracket within rest = within
outer (sign o) within rest = also (op o) rest
outer left within rest = also opening rest
outer right within rest = also closing rest
outer space within rest = rest
outer stray within rest = Err Stray

-- a character inside a citation that has the characters t so far; the test says that it is `]`
unfoldable pub inner : Bool → List ℕ → (within rest : Result (List Tok) Refusal) → Result (List Tok) Refusal
inner true t within rest = cond (blank t) (Err EmptyCondition) (also (cited (encode t)) rest)
inner false t within rest = within

unfoldable mutual
  -- the tokens of characters, or the leftmost of the refusals 1, 2, 3
  pub lex : List ℕ → Result (List Tok) Refusal
  lex [] = Ok []
  lex (c ∷ cs) = let within = inside [] cs in let rest = lex cs in outer (part c) within rest

  -- the same inside a citation that has the characters t so far
  pub inside : List ℕ → List ℕ → Result (List Tok) Refusal
  inside t [] = Err Unterminated
  inside t (c ∷ cs) = let within = inside (t ++ (c ∷ [])) cs in let rest = lex cs in inner (eqb c cite_end) t within rest

-- the texts that tokens cite, in order
unfoldable pub texts : List Tok → List (List ℕ)
texts [] = []
texts (cited t ∷ ts) = t ∷ texts ts
texts (op o ∷ ts) = texts ts
texts (opening ∷ ts) = texts ts
texts (closing ∷ ts) = texts ts
