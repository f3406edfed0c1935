-- What the parser's own functions say of the tokens read and the rows written. Assumes nothing.
use Rattle.std.specs.Prelude.{◌≡◌, List, ◌++◌, ℕ, ◌+◌, ◌-◌, ◌*◌, ◌≤◌, ◌<◌, length, take, drop, set, Result, Ok, Err}
use Rattle.refusal.specs.declared.Refusal.{Refusal}
use Rattle.utf8.specs.Limits.{text_limit}
use Rattle.grammar.specs.Expr.{Op, Expr, Exprs, none, ◌◂◌, citations_of}
use Rattle.grammar.specs.Rows.{many, rows_of, spans}
use Rattle.grammar.specs.Reading.{citation_limit}
use Rattle.grammar.specs.Kinds.{sign_kind}
use Rattle.grammar.specs.declared.NodeKind.{NodeKind}
use Rattle.parser.specs.Packed.{pack, packed, postorders}
use Rattle.parser.specs.Answer.{cites_in}
use Rattle.parser.specs.Tokens.{from}
use Rattle.parser.specs.Reading.{Atom, NoAtom, Run, Jux, NoJux, Waits, Links, Chain, NoChain}
use Rattle.lexer.specs.declared.TokenKind.{TokenKind}
use Rattle.parser.specs.declared.Pos.{Pos}
use Rattle.parser.specs.declared.Row.{Row}

-- the rows of trees in postorder stand from `start` up to `rows`
pub record Held (start first : ℕ) (work : List Row) (rows cites : ℕ) (es : Exprs) : Type 0 where
  pub fits : rows ≤ length work
  pub sized : rows ≡ start + spans es
  pub counted : cites ≡ first + length (citations_of es)
  pub rowed : take rows work ≡ take start work ++ postorders first es

-- how far reading is since p, `kids` operands waiting for their node
pub record Within (s : List TokenKind) (p : Pos) (at rows cites kids : ℕ) : Type 0 where
  pub later : p.at < at
  pub inside : at ≤ length s
  pub above : p.rows ≤ rows
  pub left : cites + cites_in (drop at s) ≤ p.cites + cites_in (drop p.at s)
  pub room : rows + kids + 2 * p.cites ≤ p.rows + 2 * cites
  pub few : kids + p.cites ≤ cites

-- one tree stands between p and q
pub record Tree (s : List TokenKind) (p : Pos) (work : List Row) (q : Pos) (e : Expr) : Type 0 where
  pub held : Held p.rows p.cites work q.rows q.cites (e ◂ none)
  pub within : Within s p q.at q.rows q.cites 1

-- where reading may start
pub record Ready (s : List TokenKind) (room : ℕ) (p : Pos) : Type 0 where
  pub short : length s ≤ text_limit
  pub inside : p.at ≤ length s
  pub few : p.cites + cites_in (drop p.at s) ≤ citation_limit
  pub space : p.rows + 2 * cites_in (drop p.at s) ≤ room + 1

-- the first n rows are those that were there
abbrev pub Front : ℕ → List Row → List Row → Type 0
Front n old new = take n new ≡ take n old

-- what `parse_atom` says
abbrev pub AtomSays : List TokenKind → Pos → List Row → List Row → Result Pos Refusal → Type 0
AtomSays s p old new (Ok q) = (e : Expr) × Atom (from s p.at) (from s q.at) e × Tree s p new q e × Front p.rows old new
AtomSays s p old new (Err why) = NoAtom (from s p.at) why

-- what `parse_juxtaposition` says
abbrev pub JuxSays : List TokenKind → Pos → List Row → List Row → Result Pos Refusal → Type 0
JuxSays s p old new (Ok q) = (e : Expr) × Jux (from s p.at) (from s q.at) e × Tree s p new q e × Front p.rows old new
JuxSays s p old new (Err why) = NoJux (from s p.at) why

-- what `parse_chain` says
abbrev pub ChainSays : List TokenKind → Pos → List Row → List Row → Result Pos Refusal → Type 0
ChainSays s p old new (Ok q) = (e : Expr) × Chain (from s p.at) (from s q.at) e × Tree s p new q e × Front p.rows old new
ChainSays s p old new (Err why) = NoChain (from s p.at) why

-- `kids` juxtaposed operands stand between p and q
pub record Running (s : List TokenKind) (p : Pos) (work : List Row) (q : Pos) (kids : ℕ) : Type 0 where
  pub run : Exprs
  pub goes : Run (from s p.at) (from s q.at) run
  pub held : Held p.rows p.cites work q.rows q.cites run
  pub within : Within s p q.at q.rows q.cites kids
  pub number : kids ≡ many run
  pub some : 1 ≤ kids

-- a chain of `kids` operands, past an operator of this kind
pub record Before (s : List TokenKind) (p : Pos) (work : List Row) (q : Pos) (kind : NodeKind) (kids : ℕ) : Type 0 where
  pub sign : Op
  pub es : Exprs
  pub goes : Waits (from s p.at) (from s q.at) sign es
  pub held : Held p.rows p.cites work q.rows q.cites es
  pub within : Within s p q.at q.rows q.cites kids
  pub kinded : kind ≡ sign_kind sign
  pub kidded : kids ≡ many es
  pub some : 1 ≤ kids

-- the same past an operand
pub record After (s : List TokenKind) (p : Pos) (work : List Row) (q : Pos) (kind : NodeKind) (kids : ℕ) : Type 0 where
  pub sign : Op
  pub es : Exprs
  pub goes : Links (from s p.at) (from s q.at) sign es
  pub held : Held p.rows p.cites work q.rows q.cites es
  pub within : Within s p q.at q.rows q.cites kids
  pub kinded : kind ≡ sign_kind sign
  pub kidded : kids ≡ many es
  pub two : 2 ≤ kids

-- one row more
abbrev pub noded : Pos → Pos
noded q = record { at = q.at; rows = q.rows + 1; cites = q.cites }

-- one token on
abbrev pub past : Pos → Pos
past q = record { at = q.at + 1; rows = q.rows; cites = q.cites }

-- the rows with that of a node of this kind and number of operands, whose rows begin at `start`
abbrev pub noded_rows : List Row → ℕ → Pos → NodeKind → ℕ → List Row
noded_rows work start q kind kids = set work q.rows (pack kind kids (q.rows + 1 - start))

-- `count` trees stand in postorder before `top`, and their rows fit before `end`
pub record Stand (work : List Row) (top count end : ℕ) : Type 0 where
  pub trees : Exprs
  pub start : ℕ
  pub first : ℕ
  pub cites : ℕ
  pub held : Held start first work top cites trees
  pub number : many trees ≡ count
  pub fits : spans trees ≤ end

-- their rows in the order of the tree stand before `end`; the others are as they were
pub record Placed (work : List Row) (top count end : ℕ) (old new : List Row) : Type 0 where
  pub is : (t : Stand work top count end) → new ≡ take (end - spans t.trees) old ++ (packed (rows_of t.first t.trees) ++ drop end old)
