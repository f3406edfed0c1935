-- The longest parts of a report and of what it is made from, in bytes. Assumes nothing.
use Rattle.std.specs.Prelude.{◌≡◌, refl, ℕ, ◌+◌, ◌*◌}
use Rattle.utf8.specs.Limits.{text_limit, value_limit}
use Rattle.grammar.specs.Reading.{citation_limit, cited_limit, print_limit}
use Rattle.grammar.specs.Bytes.{tree_limit}
use Rattle.semantics.specs.Packages.{paket_size}

-- the longest status word
abbrev pub longest_word : ℕ
longest_word = 4

-- the longest name of a truth
abbrev pub longest_truth : ℕ
longest_truth = 7

-- the longest number, in digits
abbrev pub longest_number : ℕ
longest_number = 3

-- the longest package rows: one for each citation
abbrev pub longest_rows : ℕ
longest_rows = paket_size * citation_limit

-- the longest list of citations' numbers, two bytes each
abbrev pub longest_list : ℕ
longest_list = 2 * citation_limit

-- the longest texts of violations, with a space before each
abbrev pub longest_named : ℕ
longest_named = citation_limit + cited_limit

-- a line: its name and a space, what it says, a line feed; by the lengths of both
abbrev pub line_size : (name said : ℕ) → ℕ
line_size name said = name + 1 + said + 1

-- `status` and a word
abbrev pub longest_status_line : ℕ
longest_status_line = line_size 6 longest_word

-- `tree` and a print
abbrev pub longest_tree_line : ℕ
longest_tree_line = line_size 4 print_limit

-- `presence` and a truth
abbrev pub longest_presence_line : ℕ
longest_presence_line = line_size 8 longest_truth

-- `pakete` and a number
abbrev pub longest_pakete_line : ℕ
longest_pakete_line = line_size 6 longest_number

-- `format`, a truth and the texts of violations
abbrev pub longest_format_line : ℕ
longest_format_line = line_size 6 (longest_truth + longest_named)

-- `refused` and a number
abbrev pub longest_refused_line : ℕ
longest_refused_line = line_size 7 longest_number

-- the longest report: its five lines
abbrev pub longest_report : ℕ
longest_report = longest_status_line + longest_tree_line + longest_presence_line + longest_pakete_line + longest_format_line

-- what decides of the status: one byte more than is admitted
abbrev pub kept_status : ℕ
kept_status = text_limit + 1

-- what decides of the answers: one letter more than there can be citations
abbrev pub kept_answers : ℕ
kept_answers = citation_limit + 1

-- what decides of the value: one byte more than is admitted
abbrev pub kept_value : ℕ
kept_value = value_limit + 1

-- as numbers: the values of the constants in the code
pub sizes : (tree_limit ≡ 6150) × (print_limit ≡ 4343) × (longest_rows ≡ 4864) × (longest_list ≡ 512) × (longest_report ≡ 6708) × (kept_status ≡ 4401) × (kept_answers ≡ 257) × (kept_value ≡ 1025)
sizes = (refl, refl, refl, refl, refl, refl, refl, refl)
