-- Demand 1: what a call leaves in lent memory, and that every byte string gets an answer or a numbered refusal. Every public function that
-- takes a buffer promises `answer_of` and `written_of` of one outcome, so what is said of all outcomes here is said of each of them. Assumes nothing.
use Rattle.std.specs.Prelude.{◌≡◌, refl, List, [], ◌∷◌, ◌++◌, Bool, true, false, ◌&&◌, ◌⊎◌, ℕ, ◌+◌, ◌<◌, leb, ltb, eqb, length, take, drop, Ok, Err, Option, Some, None}
use Rattle.std.proofs.Common.{sym, ◌∙◌, subst, inl, inr, arith}
use Rattle.std.proofs.Math.Path.{ap}
use Rattle.std.proofs.lemmas.Bool.{lt-leb}
use Rattle.laws.specs.Tests.{cond_both}
use Rattle.refusal.specs.Result.{then, map_ok}
use Rattle.refusal.specs.declared.Refusal.{Refusal}
use Rattle.refusal.specs.declared.Refusal.TheVariants.{TooManyCitations, WrongAnswers, NotAPaket}
use Rattle.refusal.specs.Known.{Known, unless-among, among_known, map_known, then_known}
use Rattle.text.specs.Quoted.{ascii}
use Rattle.text.specs.Bytes.{same, place, has}
use Rattle.text.specs.Digits.{all_digits, number_up_to}
use Rattle.utf8.specs.Utf8.{is_utf8, decode, encode}
use Rattle.utf8.specs.Limits.{text_limit, value_limit, admitted}
use Rattle.citation.specs.Kinds.{kind_of, kind_answer}
use Rattle.citation.specs.Pakete.{largest_bound, unbounded, high_of, low_of, range_of, bounds_of, paket_of, paket_answer}
use Rattle.formats.specs.Table.{verdict, is_registered}
use Rattle.formats.specs.Answers.{verdict_answer, registered_answer}
use Rattle.status.specs.declared.StatusKind.{StatusKind}
use Rattle.status.specs.Status.{kind_of_word}
use Rattle.grammar.specs.Expr.{Expr, concat}
use Rattle.grammar.specs.Lex.{Tok, lex, texts}
use Rattle.grammar.specs.Print.{printed}
use Rattle.grammar.specs.Reading.{citation_limit, cited_limit, some_token, few, tree, expression, reading}
use Rattle.grammar.specs.Status.{words, joined, after_word, of_words, status_reading}
use Rattle.grammar.specs.Bytes.{tree_of}
use Rattle.grammar.proofs.Known.{admitted-among, tree_of_known}
use Rattle.grammar.specs.Outcome as outcome
use Rattle.grammar.specs.Outcome.{Written, Outcome, answer_of, written_of, with_length, parse_answer, display_answer, status_answer}
use Rattle.grammar.proofs.Outcome.{written_fits}
use Rattle.semantics.specs.Presence.{answers_fit}
use Rattle.semantics.specs.Packages.{pakete}
use Rattle.semantics.specs.Truth.{truth}
use Rattle.semantics.specs.Answers.{presence_by, eval_answer, verdicts_outcome, verdicts_answer, admitted_presence, eval_and_truth_answer, rowed, pakete_answer}
use Rattle.semantics.proofs.Known.{presence_known, eval_known}
use Rattle.tree.specs.Cited.{cited_place, cited_answer}
use Rattle.ahb.specs.Sizes.{Short, ShortStatus, CountFew, answer_among, parse-among, status_among, verdicts-among}

-- Lent memory.

module _ {A : Type 0} (o : Outcome A) (buffer : List ℕ) where
  -- whatever is refused leaves the buffer's bytes as they were
  pub refused_keeps : (why : Refusal) → answer_of o (length buffer) ≡ Err why → written_of o buffer ≡ buffer
  refused_keeps why h = outcome.refused_keeps o buffer why h

  -- what an accepted call wrote: bytes of its outcome alone, and after them the buffer's own
  pub record Wrote (a : A) : Type 0 where
    pub bytes : List ℕ
    pub came : o ≡ Ok (record { answer = a; bytes = bytes })
    pub stands : written_of o buffer ≡ bytes ++ drop (length bytes) buffer

  -- whatever is accepted leaves what it wrote, and no other byte changed
  pub accepted_writes : (a : A) → answer_of o (length buffer) ≡ Ok a → Wrote a
  accepted_writes a h =
      let k = outcome.accepted o (length buffer) a h in
      let w : Written A = record { answer = a; bytes = k.bytes } in
      record { bytes = k.bytes; came = k.came; stands = ap (λ (x : Outcome A). written_of x buffer) k.came ∙ written_fits w buffer k.room }

  -- a call that is refused before the buffer is looked at: the number, and the bytes as they were
  pub turned_back : (why : Refusal) → o ≡ Err why → (answer_of o (length buffer) ≡ Err why) × (written_of o buffer ≡ buffer)
  unfolding answer_of written_of then
  turned_back why h = (ap (λ (x : Outcome A). answer_of x (length buffer)) h, ap (λ (x : Outcome A). written_of x buffer) h)

-- Too many citations.

-- tokens over the limits of 12: more than 256 citations, or more than 2,048 bytes in them
abbrev pub TooMany : List Tok → Type 0
TooMany ts = (citation_limit < length (texts ts)) ⊎ (cited_limit < length (concat (texts ts)))

module _ (ts : List Tok) where
  and_false : (a : Bool) → (a && false) ≡ false
  and_false true = refl
  and_false false = refl

  many-few : TooMany ts → few (texts ts) ≡ false
  unfolding few
  many-few (inl h) = rw (lt-leb (length (texts ts)) citation_limit h)
  many-few (inr h) = rw (lt-leb (length (concat (texts ts))) cited_limit h) (and_false (leb (length (texts ts)) citation_limit))

some_many : (ts : List Tok) → TooMany ts → some_token ts ≡ true
unfolding some_token texts concat
some_many [] (inl h) = absurd (omega (arith, h))
some_many [] (inr h) = absurd (omega (arith, h))
some_many (t ∷ ts) h = refl

many-expression : (cs : List ℕ) (ts : List Tok) → lex cs ≡ Ok ts → TooMany ts → expression cs ≡ Err TooManyCitations
unfolding expression tree then
many-expression cs ts x h = rw (x, some_many ts h, many-few ts h)

-- an expression with too many citations is refused by 12, whatever the buffer, and no byte of it changes
pub many_refused : (s : List ℕ) (ts : List Tok) → leb (length s) text_limit ≡ true → is_utf8 s ≡ true → lex (decode s) ≡ Ok ts → TooMany ts
    → (buffer : List ℕ) → (answer_of (parse_answer s) (length buffer) ≡ Err TooManyCitations) × (written_of (parse_answer s) buffer ≡ buffer)
unfolding parse_answer reading admitted map_ok
many_refused s ts l u x h buffer = turned_back (parse_answer s) buffer TooManyCitations (rw (l, u, many-expression (decode s) ts x h))

many-words : (k : StatusKind) (ws : List (List ℕ)) (ts : List Tok) → lex (joined ws) ≡ Ok ts → TooMany ts → after_word k ws ≡ Err TooManyCitations
unfolding after_word map_ok joined lex texts concat
many-words k [] ts x h =
    let same : [] ≡ ts = cc in
    absurd (none_many (subst TooMany (sym same) h))
  where
    none_many : TooMany [] → ⊥
    none_many (inl h) = omega (arith, h)
    none_many (inr h) = omega (arith, h)
many-words k (w ∷ ws) ts x h = rw (many-expression (joined (w ∷ ws)) ts x h)

-- and so is a status whose words after the first have too many
pub status_many_refused : (s w : List ℕ) (ws : List (List ℕ)) (k : StatusKind) (ts : List Tok) → leb (length s) text_limit ≡ true → is_utf8 s ≡ true
    → words (decode s) ≡ w ∷ ws → kind_of_word (encode w) ≡ Ok k → lex (joined ws) ≡ Ok ts → TooMany ts
    → (buffer : List ℕ) → (answer_of (status_answer s) (length buffer) ≡ Err TooManyCitations) × (written_of (status_answer s) buffer ≡ buffer)
unfolding status_answer status_reading admitted of_words then map_ok
status_many_refused s w ws k ts l u split known x h buffer =
    turned_back (status_answer s) buffer TooManyCitations (rw (l, u, split, known, many-words k ws ts x h))

-- An answer or a refusal of the table, for every byte string.

-- a refusal that 14 alone adds to
room_known : {A : Type 0} (o : Outcome A) (n : ℕ) → Known o → Known (answer_of o n)
room_known o n h = answer_among (λ _. Unit {0}) o n h

-- `Expr::parse`
pub parse-numbered : (text : List ℕ) (n : ℕ) → Known (answer_of (parse_answer text) n)
parse-numbered text n = among_known Short (answer_of (parse_answer text) n) (parse-among text n)

-- `Status::parse`
pub status_numbered : (text : List ℕ) (n : ℕ) → Known (answer_of (status_answer text) n)
status_numbered text n = among_known ShortStatus (answer_of (status_answer text) n) (status_among text n)

-- `display`
pub display_numbered : (tree : List ℕ) (n : ℕ) → Known (answer_of (display_answer tree) n)
unfolding display_answer
display_numbered tree n = room_known (display_answer tree) n (map_known (λ e. with_length (printed e)) (tree_of tree) (tree_of_known tree))

-- `pakete`
pub pakete-numbered : (tree : List ℕ) (n : ℕ) → Known (answer_of (pakete_answer tree) n)
unfolding pakete_answer
pakete-numbered tree n = room_known (pakete_answer tree) n (map_known (λ e. rowed (pakete e)) (tree_of tree) (tree_of_known tree))

-- `eval`
pub eval_numbered : (tree answers : List ℕ) → Known (eval_answer tree answers)
eval_numbered = eval_known

-- `verdicts`
pub verdicts_numbered : (tree value : List ℕ) (n : ℕ) → Known (answer_of (verdicts_answer tree value) n)
verdicts_numbered tree value n = among_known CountFew (answer_of (verdicts_answer tree value) n) (verdicts-among tree value n)

-- `verdicts_of`
pub verdicts_of_numbered : (value : List ℕ) (e : Expr) (n : ℕ) → Known (answer_of (verdicts_outcome value e) n)
verdicts_of_numbered value e n = room_known (verdicts_outcome value e) n tt

-- `eval_admitted`
pub admitted_numbered : (answers value : List ℕ) (e : Expr) → Known (admitted_presence answers value e)
admitted_numbered answers value e =
    unless-among (λ _. Unit {0}) (answers_fit e answers) WrongAnswers _ (admitted-among (λ _. Unit {0}) value_limit value (presence_by answers e) (presence_known answers 0 e))

-- `eval_and_truth`
pub both-numbered : (tree answers value : List ℕ) → Known (eval_and_truth_answer tree answers value)
unfolding eval_and_truth_answer
both-numbered tree answers value =
    then_known (tree_of tree) _ (tree_of_known tree)
    λ e. unless-among (λ _. Unit {0}) (answers_fit e answers) WrongAnswers _
    (admitted-among (λ _. Unit {0}) value_limit value _ (map_known (λ p. (p, truth value e)) (presence_by answers e) (presence_known answers 0 e)))

-- `cited`
pub cited_numbered : (tree : List ℕ) (number : ℕ) → Known (cited_answer tree number)
unfolding cited_answer
cited_numbered tree number = map_known (cited_place number) (tree_of tree) (tree_of_known tree)

-- `ConditionKind::of`
pub kind_numbered : (text : List ℕ) → Known (kind_answer text)
kind_numbered text = admitted-among (λ _. Unit {0}) text_limit text (Ok (kind_of text)) tt

-- `evaluate`
pub verdict-numbered : (text value : List ℕ) → Known (verdict_answer text value)
verdict-numbered text value = admitted-among (λ _. Unit {0}) text_limit text _ (admitted-among (λ _. Unit {0}) value_limit value (Ok (verdict text value)) tt)

-- `is_registered`
pub registered_numbered : (text : List ℕ) → Known (registered_answer text)
registered_numbered text = admitted-among (λ _. Unit {0}) text_limit text (Ok (is_registered text)) tt

high_known : (name low : ℕ) (found : Option ℕ) → Known (high_of name low found)
high_known name low (Some high) = tt
high_known name low None = (NotAPaket, refl)

low_known : (name : ℕ) (found : Option ℕ) (h : List ℕ) → Known (low_of name found h)
low_known name (Some low) h =
    cond_both Known (same (ascii "n") h) (Ok (unbounded name low)) (high_of name low (number_up_to largest_bound h)) (λ _. tt)
    λ _. high_known name low (number_up_to largest_bound h)
low_known name None h = (NotAPaket, refl)

range_known : (name : ℕ) (r : List ℕ) → Known (range_of name r)
unfolding range_of
range_known name r =
    let at = place (ascii "..") r in
    let low = number_up_to largest_bound (take at r) in
    unless-among (λ _. Unit {0}) (has (ascii "..") r) NotAPaket (low_of name low (drop (at + 2) r)) (low_known name low (drop (at + 2) r))

bounds_known : (name : ℕ) (r : List ℕ) → Known (bounds_of name r)
bounds_known name r = cond_both Known (eqb (length r) 0) (Ok (unbounded name 0)) (range_of name r) (λ _. tt) λ _. range_known name r

paket_known : (text : List ℕ) → Known (paket_of text)
unfolding paket_of
paket_known text =
    let p = place (ascii "P") text in
    let named = has (ascii "P") text && (ltb 0 p && all_digits (take p text)) in
    let after = drop (p + 1) text in
    unless-among (λ _. Unit {0}) named NotAPaket (bounds_of (p + 1) after) (bounds_known (p + 1) after)

-- `Paket::parse`
pub paket_numbered : (text : List ℕ) → Known (paket_answer text)
paket_numbered text = admitted-among (λ _. Unit {0}) text_limit text (paket_of text) (paket_known text)
