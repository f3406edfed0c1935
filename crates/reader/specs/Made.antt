-- What is known of a text's tree before it is written. Assumes nothing.
use Rattle.std.specs.Prelude.{◌≡◌, List, ℕ, ◌+◌, ◌*◌, ◌≤◌, length, take, Result, Ok, Err}
use Rattle.refusal.specs.declared.Refusal.{Refusal}
use Rattle.utf8.specs.Utf8.{decode}
use Rattle.utf8.specs.Limits.{text_limit}
use Rattle.grammar.specs.Expr.{Expr, concat, citations, count}
use Rattle.grammar.specs.Rows.{rows, span}
use Rattle.grammar.specs.Reading.{citation_limit, expression, Fits}
use Rattle.lexer.specs.Tokens.{cuts}
use Rattle.lexer.specs.declared.Place.{Place}
use Rattle.parser.specs.Packed.{packed}
use Rattle.parser.specs.declared.Row.{Row}
use Rattle.reader.specs.declared.Sizes.{Sizes}

-- the scratch has room for the tokens of a text of n bytes, and for as many citations as so many tokens can be
pub record Room (n kinds places work rows : ℕ) : Type 0 where
  pub tokens : n ≤ kinds
  pub short : kinds ≤ text_limit
  pub cites : (m : ℕ) → m ≤ citation_limit → m ≤ kinds → m ≤ places
  pub works : (m : ℕ) → m ≤ citation_limit → m ≤ kinds → 2 * m ≤ work + 1
  pub nodes : (m : ℕ) → m ≤ citation_limit → m ≤ kinds → 2 * m ≤ rows + 1

-- the text reads as a tree, whose rows and places of citations stand in front
pub record Stands (s : List ℕ) (places : List Place) (held : List Row) (n c t : ℕ) : Type 0 where
  pub tree : Expr
  pub is : expression (decode s) ≡ Ok tree
  pub fits : Fits tree
  pub nodes : n ≡ span tree
  pub cites : c ≡ count tree
  pub bytes : t ≡ length (concat (citations tree))
  pub rowed : take n held ≡ packed (rows 0 tree)
  pub cited : cuts s (take c places) ≡ citations tree
  pub rows_room : n ≤ length held
  pub cites_room : c ≤ length places

-- what `make` says
abbrev pub Made : (s : List ℕ) (places : List Place) (held : List Row) → Result Sizes Refusal → Type 0
Made s places held (Ok m) = Stands s places held m.nodes m.cites m.bytes
Made s places held (Err why) = expression (decode s) ≡ Err why
