-- Every refusal of reading and of the test for a tree is one of the table. Assumes nothing.
use Rattle.std.specs.Prelude.{refl, List, [], ◌∷◌, ◌++◌, Bool, true, false, ℕ, eqb, leb, length, Result, Ok, Err}
use Rattle.laws.specs.Tests.{cond_both}
use Rattle.refusal.specs.declared.Refusal.{Refusal}
use Rattle.refusal.specs.Result.{unless}
use Rattle.refusal.specs.Known.{Among, Known, unless-among, map_known, then_known}
use Rattle.refusal.specs.declared.Refusal.TheVariants.{Stray, Unterminated, EmptyCondition, MissingOperand, Parentheses, Empty, NoStatusWord, TooLong, NotUtf8, TooManyCitations, TooDeep, NotATree}
use Rattle.utf8.specs.Utf8.{is_utf8, decode, encode}
use Rattle.utf8.specs.Limits.{text_limit, admitted}
use Rattle.text.specs.Bytes.{same}
use Rattle.status.specs.declared.StatusKind.{StatusKind}
use Rattle.status.specs.Status.{word_of, kinds, kind_among, kind_of_word}
use Rattle.grammar.specs.Expr.{Exprs, cite, none, more, ◌◂◌, ◌▸◌}
use Rattle.grammar.specs.Lex.{Tok, cited, op, opening, closing, Part, bracket, sign, left, right, space, stray, part, outer, inner, blank, also, lex, inside, texts, cite_end}
use Rattle.grammar.specs.Parse.{whole, Left, start, after, Opens, top, within, value, read, parse}
use Rattle.grammar.specs.Reading.{some_token, few, shallow, open_limit, tree, expression, reading}
use Rattle.grammar.specs.Status.{words, joined, stated, after_word, of_words, status_reading}
use Rattle.grammar.specs.Bytes.{is_tree, tree_at, tree_of}

module _ {A : Type 0} (P : A → Type 0) where
  -- 10 and 11 are of the table
  pub admitted-among : (most : ℕ) (s : List ℕ) (r : Result A Refusal) → Among P r → Among P (admitted most s r)
  unfolding admitted
  admitted-among most s r h = unless-among P (leb (length s) most) TooLong (unless (is_utf8 s) NotUtf8 r) (unless-among P (is_utf8 s) NotUtf8 r h)

outer_known : (p : Part) (i r : Result (List Tok) Refusal) → Known i → Known r → Known (outer p i r)
unfolding outer
outer_known bracket i r hi hr = hi
outer_known (sign o) i r hi hr = map_known (λ ts. op o ∷ ts) r hr
outer_known left i r hi hr = map_known (λ ts. opening ∷ ts) r hr
outer_known right i r hi hr = map_known (λ ts. closing ∷ ts) r hr
outer_known space i r hi hr = hr
outer_known stray i r hi hr = (Stray, refl)

inner_known : (b : Bool) (t : List ℕ) (i r : Result (List Tok) Refusal) → Known i → Known r → Known (inner b t i r)
unfolding inner
inner_known true t i r hi hr =
    cond_both Known (blank t) (Err EmptyCondition) (also (cited (encode t)) r) (λ _. (EmptyCondition, refl)) λ _. map_known (λ ts. cited (encode t) ∷ ts) r hr
inner_known false t i r hi hr = hi

mutual
  unfolding lex

  lex_known : (cs : List ℕ) → Known (lex cs)
  lex_known [] = tt
  lex_known (c ∷ cs) = outer_known (part c) (inside [] cs) (lex cs) (inside_known [] cs) (lex_known cs)

  inside_known : (t cs : List ℕ) → Known (inside t cs)
  inside_known t [] = (Unterminated, refl)
  inside_known t (c ∷ cs) = inner_known (eqb c cite_end) t (inside (t ++ (c ∷ [])) cs) (lex cs) (inside_known (t ++ (c ∷ [])) cs) (lex_known cs)

parse_known : (ts : List Tok) (l : Left) (run : Exprs) (w : Opens) → Known (read ts l run w)
unfolding read
parse_known [] l none w = (MissingOperand, refl)
parse_known [] l (more e es) top = tt
parse_known [] l (more e es) (within l' run' w) = (Parentheses, refl)
parse_known (cited t ∷ ts) l run w = parse_known ts l (run ▸ cite t) w
parse_known (opening ∷ ts) l run w = parse_known ts start none (within l run w)
parse_known (op o ∷ ts) l none w = (MissingOperand, refl)
parse_known (op o ∷ ts) l (more e es) w = parse_known ts (after (value l (e ◂ es)) o) none w
parse_known (closing ∷ ts) l none w = (MissingOperand, refl)
parse_known (closing ∷ ts) l (more e es) top = (Parentheses, refl)
parse_known (closing ∷ ts) l (more e es) (within l' run' w) = parse_known ts l' (run' ▸ whole (value l (e ◂ es))) w

tree_known : (ts : List Tok) → Known (tree ts)
unfolding tree parse
tree_known ts =
    unless-among (λ _. Unit {0}) (some_token ts) Empty _
    (unless-among (λ _. Unit {0}) (few (texts ts)) TooManyCitations _ (unless-among (λ _. Unit {0}) (shallow open_limit 0 ts) TooDeep _ (parse_known ts start none top)))

expression_known : (cs : List ℕ) → Known (expression cs)
unfolding expression
expression_known cs = then_known (lex cs) tree (lex_known cs) tree_known

-- the refusals of reading an expression
pub reading_known : (s : List ℕ) → Known (reading s)
unfolding reading
reading_known s = admitted-among (λ _. Unit {0}) text_limit s (expression (decode s)) (expression_known (decode s))

kind_known : (ks : List StatusKind) (w : List ℕ) → Known (kind_among ks w)
unfolding kind_among
kind_known [] w = (NoStatusWord, refl)
kind_known (k ∷ ks) w = cond_both Known (same (word_of k) w) (Ok k) (kind_among ks w) (λ _. tt) λ _. kind_known ks w

after_known : (ws : List (List ℕ)) (k : StatusKind) → Known (after_word k ws)
unfolding after_word
after_known [] k = tt
after_known (w ∷ ws) k = map_known (stated k) (expression (joined (w ∷ ws))) (expression_known (joined (w ∷ ws)))

words_known : (ws : List (List ℕ)) → Known (of_words ws)
unfolding of_words kind_of_word
words_known [] = (NoStatusWord, refl)
words_known (w ∷ ws) = then_known (kind_among kinds (encode w)) (λ k. after_word k ws) (kind_known kinds (encode w)) (after_known ws)

-- the refusals of reading a status
pub status_known : (s : List ℕ) → Known (status_reading s)
unfolding status_reading
status_known s = admitted-among (λ _. Unit {0}) text_limit s (of_words (words (decode s))) (words_known (words (decode s)))

-- the refusals of a tree
pub tree_of_known : (b : List ℕ) → Known (tree_of b)
unfolding tree_of
tree_of_known b = unless-among (λ _. Unit {0}) (is_tree b) NotATree (Ok (tree_at b 0)) tt
