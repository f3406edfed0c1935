-- What the lexer's own functions say of the text that is left. Assumes nothing.
use Rattle.std.specs.Prelude.{ℕ, ◌+◌, ◌-◌, ◌≤◌, ◌<◌, ◌≡◌, true, List, [], ◌∷◌, ◌++◌, length, take, drop, set, Option, Some, None, Result, Ok, Err}
use Rattle.refusal.specs.declared.Refusal.{Refusal}
use Rattle.text.specs.Bytes.{over}
use Rattle.utf8.specs.Utf8.{is_utf8, decode}
use Rattle.grammar.specs.Expr.{concat}
use Rattle.grammar.specs.Lex.{Tok, cited, lex, texts}
use Rattle.grammar.specs.LexPrint.{before}
use Rattle.utf8.specs.Limits.{text_limit}
use Rattle.lexer.specs.Tokens.{kind_of, kinds_of, deeper, depth, placed}
use Rattle.lexer.specs.Scan.{Scan, halt, meets, scan, scan_in, scanned, places_in, outcome}
use Rattle.lexer.specs.declared.Token.{Token}
use Rattle.lexer.specs.declared.Token.TheVariants.{Space, Mark, Cite}
use Rattle.lexer.specs.declared.Count.{Count}
use Rattle.lexer.specs.declared.TokenKind.{TokenKind}
use Rattle.lexer.specs.declared.TokenKind.TheVariants.{Citation}
use Rattle.lexer.specs.declared.Place.{Place}

-- q is a place after `at` from which the text goes on
pub record Ahead (s : List ℕ) (at q : ℕ) : Type 0 where
  pub later : at < q
  pub room : q ≤ length s
  pub well : is_utf8 (drop q s) ≡ true

-- a citation whose text stands from `from` to `end`
pub record Closing (s : List ℕ) (from end : ℕ) : Type 0 where
  pub order : from ≤ end
  pub ahead : Ahead s end (end + 1)
  pub goes : scan_in from [] (decode (drop from s)) ≡ meets from (cited (take (end - from) (drop from s))) (scan (end + 1) (decode (drop (end + 1) s)))

-- what `close_at` says
abbrev pub Closes : List ℕ → ℕ → Result ℕ Refusal → Type 0
Closes s at (Ok end) = Closing s at end
Closes s at (Err why) = scan_in at [] (decode (drop at s)) ≡ halt why

-- a token that is no citation
pub record Marked (s : List ℕ) (at : ℕ) (k : TokenKind) (q : ℕ) : Type 0 where
  pub tok : Tok
  pub kind : kind_of tok ≡ k
  pub plain : texts (tok ∷ []) ≡ []
  pub ahead : Ahead s at q
  pub goes : scan at (decode (drop at s)) ≡ meets at tok (scan q (decode (drop q s)))

-- a citation, with its `[` at `at`
pub record Cites (s : List ℕ) (at from end : ℕ) : Type 0 where
  pub later : at < from
  pub order : from ≤ end
  pub ahead : Ahead s end (end + 1)
  pub goes : scan at (decode (drop at s)) ≡ meets from (cited (take (end - from) (drop from s))) (scan (end + 1) (decode (drop (end + 1) s)))

-- what `token_at` says
abbrev pub Begins : List ℕ → ℕ → Result Token Refusal → Type 0
Begins s at (Ok (Space q)) = Ahead s at q × (scan at (decode (drop at s)) ≡ scan q (decode (drop q s)))
Begins s at (Ok (Mark k q)) = Marked s at k q
Begins s at (Ok (Cite from end)) = Cites s at from end
Begins s at (Err why) = scan at (decode (drop at s)) ≡ halt why

-- the place after a token or white space
abbrev pub token_end : Token → ℕ
token_end (Space q) = q
token_end (Mark k q) = q
token_end (Cite from end) = end + 1

-- what `Tokens` gives at a place, and the place after it; a refusal is the last
abbrev pub NextToken : List ℕ → ℕ → Option (Result Token Refusal) → ℕ → Type 0
NextToken s at None next = (length s ≤ at) × (next ≡ at)
NextToken s at (Some (Ok token)) next = (at < length s) × Begins s at (Ok token) × (next ≡ token_end token)
NextToken s at (Some (Err why)) next = Begins s at (Err why) × (next ≡ length s)

-- a citation's text ends at or below a text's limit, after it begins
abbrev pub InText : Token → Type 0
InText (Space q) = Unit
InText (Mark k q) = Unit
InText (Cite from end) = (from ≤ end) × (end ≤ text_limit)

-- what `store_token` says
abbrev pub Stored : Token → (kinds₀ : List TokenKind) (places₀ : List Place) (kinds : List TokenKind) (places : List Place) → Count → Count → Type 0
Stored (Space next) kinds₀ places₀ kinds places p q = (kinds ≡ kinds₀) × (places ≡ places₀) × (q ≡ p)
Stored (Mark k next) kinds₀ places₀ kinds places p q =
    (kinds ≡ set kinds₀ p.tokens k) × (places ≡ places₀) × (q ≡ record { tokens = p.tokens + 1; cites = p.cites; bytes = p.bytes; depth = deeper p.depth k })
Stored (Cite from end) kinds₀ places₀ kinds places p q =
    (kinds ≡ set kinds₀ p.tokens Citation) × (places ≡ set places₀ p.cites (placed from (end - from))) × (q ≡ record { tokens = p.tokens + 1; cites = p.cites + 1; bytes = p.bytes + (end - from); depth = p.depth })

-- what a text is read as
abbrev pub reading : List ℕ → Scan
reading s = scan 0 (decode s)

-- the text up to `at` has been read, as the tokens `done` with the places `sites`
pub record State (s : List ℕ) (kinds : List TokenKind) (places : List Place) (at : ℕ) (p : Count) : Type 0 where
  pub done : List Tok
  pub sites : List Place
  pub room : at ≤ length s
  pub tokens_room : p.tokens ≤ at
  pub cites-room : p.cites ≤ at
  pub bytes-room : p.bytes ≤ at
  pub tokens : p.tokens ≡ length done
  pub cites : p.cites ≡ length (texts done)
  pub spots : p.cites ≡ length sites
  pub bytes : p.bytes ≡ length (concat (texts done))
  pub deep : p.depth ≡ depth 0 done
  pub well : is_utf8 (drop at s) ≡ true
  pub goes : scanned (reading s) ≡ done ++ scanned (scan at (decode (drop at s)))
  pub stands : places_in (reading s) ≡ sites ++ places_in (scan at (decode (drop at s)))
  pub ends : outcome (reading s) ≡ before done (outcome (scan at (decode (drop at s))))
  pub shown : take p.tokens kinds ≡ kinds_of done
  pub held : take p.cites places ≡ take (length places) sites

-- the tokens in front of the leftmost refusal and their places were written, and nothing else
abbrev pub Written : (s : List ℕ) (kinds₀ : List TokenKind) (places₀ : List Place) (kinds : List TokenKind) (places : List Place) → Type 0
Written s kinds₀ places₀ kinds places = (kinds ≡ over (kinds_of (scanned (reading s))) kinds₀) × (places ≡ over (take (length places₀) (places_in (reading s))) places₀)

-- what `lex_all` says
abbrev pub Ends : (s : List ℕ) (kinds₀ : List TokenKind) (places₀ : List Place) (kinds : List TokenKind) (places : List Place) → Result Count Refusal → Type 0
Ends s kinds₀ places₀ kinds places (Ok p) = State s kinds places (length s) p × Written s kinds₀ places₀ kinds places
Ends s kinds₀ places₀ kinds places (Err why) = (lex (decode s) ≡ Err why) × Written s kinds₀ places₀ kinds places
