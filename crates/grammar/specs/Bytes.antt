-- The tree as bytes: header, node rows, citation rows, texts. Assumes nothing.
use Rattle.std.specs.Prelude.{List, [], ◌∷◌, ◌++◌, Bool, ◌&&◌, ℕ, zero, suc, ◌+◌, ◌-◌, ◌*◌, ◌/◌, ◌%◌, eqb, leb, ltb, length, get_or, take, drop, Result, Ok}
use Rattle.refusal.specs.declared.Refusal.{Refusal}
use Rattle.refusal.specs.Result.{unless}
use Rattle.refusal.specs.declared.Refusal.TheVariants.{NotATree}
use Rattle.grammar.specs.Expr.{Expr, Exprs, concat, citations}
use Rattle.grammar.specs.Citable.{citable}
use Rattle.grammar.specs.Reading.{citation_limit, cited_limit, node_limit}
use Rattle.grammar.specs.Rows.{Row, row, rows, first, build}

-- the bytes of the header
abbrev pub head_size : ℕ
head_size = 12

-- the bytes of a node row
abbrev pub row_size : ℕ
row_size = 6

-- the bytes of a citation row
abbrev pub cite_size : ℕ
cite_size = 4

-- most bytes of a tree: header, node rows, citation rows, texts
abbrev pub tree_limit : ℕ
tree_limit = head_size + row_size * node_limit + cite_size * citation_limit + cited_limit

-- a number as two bytes, little-endian
unfoldable pub two_bytes : ℕ → List ℕ
two_bytes n = (n % 256) ∷ (n / 256) ∷ []

-- node rows; a row's kind and its zero byte are one field
unfoldable pub row_bytes : List Row → List ℕ
row_bytes [] = []
row_bytes (row k m z ∷ rs) = two_bytes k ++ (two_bytes m ++ (two_bytes z ++ row_bytes rs))

-- citation rows: offset within the texts, length
unfoldable pub cite_bytes : ℕ → List (List ℕ) → List ℕ
cite_bytes o [] = []
cite_bytes o (t ∷ ts) = two_bytes o ++ (two_bytes (length t) ++ cite_bytes (o + length t) ts)

-- where the citation rows begin, after n node rows
abbrev pub cites_from : ℕ → ℕ
cites_from n = head_size + row_size * n

-- where the texts begin, after n node rows and c citation rows
abbrev pub texts_from : (n c : ℕ) → ℕ
texts_from n c = cites_from n + cite_size * c

-- the header for n nodes, c citations and t bytes of texts
unfoldable pub head_bytes : (n c t : ℕ) → List ℕ
head_bytes n c t =
    two_bytes n
    ++ (two_bytes c ++ (two_bytes head_size ++ (two_bytes (cites_from n) ++ (two_bytes (texts_from n c) ++ two_bytes (texts_from n c + t)))))

-- rows and texts as bytes
unfoldable pub packed : List Row → List (List ℕ) → List ℕ
packed rs ts = head_bytes (length rs) (length ts) (length (concat ts)) ++ (row_bytes rs ++ (cite_bytes 0 ts ++ concat ts))

-- the tree bytes of an expression
unfoldable pub bytes_of : Expr → List ℕ
bytes_of e = packed (rows 0 e) (citations e)

-- the number in two bytes at a place
abbrev pub field : List ℕ → ℕ → ℕ
field b at = get_or b at 0 + 256 * get_or b (at + 1) 0

-- the count of nodes in a header
abbrev pub nodes : List ℕ → ℕ
nodes b = field b 0

-- the count of citations in a header
abbrev pub cites : List ℕ → ℕ
cites b = field b 2

-- where the citation rows begin, by the header's counts
abbrev pub cites_at : List ℕ → ℕ
cites_at b = cites_from (nodes b)

-- where the texts begin, by the header's counts
abbrev pub texts_at : List ℕ → ℕ
texts_at b = texts_from (nodes b) (cites b)

-- the row at a byte
abbrev pub row_at : List ℕ → ℕ → Row
row_at b at = row (field b at) (field b (at + 2)) (field b (at + 4))

-- n node rows from a byte on
unfoldable pub rows_from : List ℕ → (n at : ℕ) → List Row
rows_from b zero at = []
rows_from b (suc n) at = row_at b at ∷ rows_from b n (at + row_size)

-- the texts of c citation rows from a byte on, one after another from the byte p
unfoldable pub cited_from : List ℕ → (c at p : ℕ) → List (List ℕ)
cited_from b zero at p = []
cited_from b (suc c) at p = take (field b (at + 2)) (drop p b) ∷ cited_from b c (at + cite_size) (p + field b (at + 2))

-- all node rows
abbrev pub rows_in : List ℕ → List Row
rows_in b = rows_from b (nodes b) head_size

-- all cited texts
abbrev pub texts_in : List ℕ → List (List ℕ)
texts_in b = cited_from b (cites b) (cites_at b) (texts_at b)

-- the header is that of its counts and of the length, and 12's limits hold
unfoldable pub head_ok : List ℕ → Bool
head_ok b =
    leb head_size (length b)
    && (eqb (field b 4) head_size && (eqb (field b 6) (cites_at b) && (eqb (field b 8) (texts_at b) && (eqb (field b 10) (length b)
    && (leb (cites b) citation_limit && (leb (texts_at b) (length b) && leb (length b) (texts_at b + cited_limit)))))))

-- the rows of the first subtree, by its row
unfoldable pub size_of : List Row → ℕ
size_of [] = 0
size_of (row k m z ∷ rs) = z

-- m subtrees, walked by their sizes, take up z rows
unfoldable pub tiles : (m z : ℕ) → List Row → Bool
tiles zero z rs = eqb z 0
tiles (suc m) z rs = (ltb 0 (size_of rs) && leb (size_of rs) z) && tiles m (z - size_of rs) (drop (size_of rs) rs)

-- a row fits the rows that follow it, and the n citations before it
unfoldable pub row_ok : ℕ → Row → List Row → Bool
row_ok n (row zero m z) rs = eqb m n && eqb z 1
row_ok n (row (suc k) m z) rs = ltb k 4 && (leb 2 m && (ltb 0 z && (leb z (suc (length rs)) && tiles m (z - 1) rs)))

-- the citations up to a row, it included
abbrev pub counted : ℕ → Row → ℕ
counted n (row zero m z) = suc n
counted n (row (suc k) m z) = n

-- each row fits, and the citations are numbered from n to c in order
unfoldable pub rows_ok : (n c : ℕ) → List Row → Bool
rows_ok n c [] = eqb n c
rows_ok n c (r ∷ rs) = row_ok n r rs && rows_ok (counted n r) c rs

-- c citation rows from a byte on are those of citable texts that stand one after another from the byte p to the end
unfoldable pub cites_ok : List ℕ → (c at p : ℕ) → Bool
cites_ok b zero at p = eqb p (length b)
cites_ok b (suc c) at p =
    eqb (texts_at b + field b at) p
    && (leb (p + field b (at + 2)) (length b)
    && (citable (take (field b (at + 2)) (drop p b)) && cites_ok b c (at + cite_size) (p + field b (at + 2))))

-- the bytes are a tree: the header fits, the rows are one subtree, each fits, and so do the citations
unfoldable pub is_tree : List ℕ → Bool
is_tree b = head_ok b && (tiles 1 (nodes b) (rows_in b) && (rows_ok 0 (cites b) (rows_in b) && cites_ok b (cites b) (cites_at b) (texts_at b)))

-- the trees that stand from the row i on
unfoldable pub forest_at : List ℕ → ℕ → Exprs
forest_at b i = build (texts_in b) (rows_from b (nodes b - i) (head_size + row_size * i))

-- the tree that stands at the row i
unfoldable pub tree_at : List ℕ → ℕ → Expr
tree_at b i = first (forest_at b i)

-- the expression whose bytes these are
unfoldable pub tree_of : List ℕ → Result Expr Refusal
tree_of b = unless (is_tree b) NotATree (Ok (tree_at b 0))
