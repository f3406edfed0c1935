-- How long a print is, as it is answered. Assumes nothing.
use Rattle.std.specs.Prelude.{List, ℕ, ◌≤◌, length}
use Rattle.grammar.specs.Print.{printed}
use Rattle.grammar.specs.Bytes.{tree_of}
use Rattle.grammar.specs.Outcome.{answer_of, with_length, display_answer}
use Rattle.grammar.proofs.Theorems.{print_short}
use Rattle.refusal.specs.Known.{Among, known_among, map-among}
use Rattle.grammar.proofs.Known.{tree_of_known}
use Rattle.ahb.specs.Sizes.{answer_among, tree_fits}
use Rattle.grammar.specs.Reading.{print_limit}

-- a print's length
abbrev pub Printable : ℕ → Type 0
Printable n = n ≤ print_limit

-- no print is longer
pub print_among : (b : List ℕ) (n : ℕ) → Among Printable (answer_of (display_answer b) n)
unfolding display_answer
print_among b n =
    answer_among Printable _ n
    (map-among (λ w. Printable w.answer) (λ e. with_length (printed e)) (tree_of b)
    (known_among (λ e. Printable (length (printed e))) (tree_of b) (tree_of_known b) λ e h. print_short e (tree_fits b e h)))
