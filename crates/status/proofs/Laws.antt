-- Laws of the status words: a word and its kind. Assumes nothing.
use Rattle.std.specs.Prelude.{Result, Ok, Err}
use Prim.Native.Nat.{ℕ, ◌+◌, ◌≤◌, ◌<◌}
use mathlib.Core.Path.{◌≡◌, refl, sym, ap, ◌∙◌}
use mathlib.Core.Bool.{Bool, true, false, cond}
use mathlib.Core.List.{List, [], ◌∷◌}
use mathlib.Mathlib.Logic.Function.Defs.{Injective}
use native.Mathlib.Numerals.{add-one}
use lib.ListN.{get_or, drop, drop_of_length-le}
use lib.Seq.{drop-cons}
use Rattle.text.specs.Bytes.{same}
use Rattle.text.proofs.Laws.{same_equal}
use Rattle.refusal.specs.Result.{err≢ok}
use Rattle.refusal.specs.declared.Refusal.{Refusal}
use Rattle.refusal.specs.declared.Refusal.TheVariants.{NoStatusWord}
use Rattle.status.specs.Status.{word_of, kinds, kind_among, kind_of_word}
use Rattle.status.specs.declared.StatusKind.{StatusKind}
use Rattle.status.specs.declared.StatusKind.TheVariants.{Muss, Soll, Kann, X, M, S, K}

-- from a word to its kind and back
pub word_round : (k : StatusKind) → kind_of_word (word_of k) ≡ Ok k
unfolding kind_of_word kind_among
word_round Muss = refl
word_round Soll = refl
word_round Kann = refl
word_round X = refl
word_round M = refl
word_round S = refl
word_round K = refl

among-word : (ks : List StatusKind) (w : List ℕ) (k : StatusKind) → kind_among ks w ≡ Ok k → w ≡ word_of k
unfolding kind_among
among-word [] w k h = absurd (err≢ok h)
among-word (j ∷ ks) w k h = go (same (word_of j) w) refl h (among-word ks w k)
  where
    same_kind : ◌≡◌ {A = Result StatusKind Refusal} (Ok j) (Ok k) → j ≡ k
    same_kind e = cc

    go : (t : Bool) → same (word_of j) w ≡ t → cond t (Ok j) (kind_among ks w) ≡ Ok k → (kind_among ks w ≡ Ok k → w ≡ word_of k) → w ≡ word_of k
    go true e h ih = sym (same_equal (word_of j) w e) ∙ ap word_of (same_kind h)
    go false e h ih = ih h

pub word_sound : (w : List ℕ) (k : StatusKind) → kind_of_word w ≡ Ok k → w ≡ word_of k
unfolding kind_of_word
word_sound w k h = among-word kinds w k h

-- different kinds have different words
pub word_injective : Injective word_of
word_injective j k e = let one : ◌≡◌ {A = Result StatusKind Refusal} (Ok j) (Ok k) = sym (word_round j) ∙ ap kind_of_word e ∙ word_round k in cc

-- one turn of the search, at the i-th kind
module _ (w : List ℕ) (i : ℕ) (h : i < 7) where
  turn : (t : Bool) → same (word_of (get_or kinds i Muss)) w ≡ t → kind_among (drop i kinds) w ≡ cond t (Ok (get_or kinds i Muss)) (kind_among (drop (i + 1) kinds) w)
  unfolding kind_among
  turn t s = rw (drop-cons kinds i Muss h, add-one i, s)

  pub kind_here : same (word_of (get_or kinds i Muss)) w ≡ true → kind_among (drop i kinds) w ≡ Ok (get_or kinds i Muss)
  kind_here = turn true

  pub kind_later : same (word_of (get_or kinds i Muss)) w ≡ false → kind_among (drop i kinds) w ≡ kind_among (drop (i + 1) kinds) w
  kind_later = turn false

pub kind_none : (w : List ℕ) (i : ℕ) → 7 ≤ i → kind_among (drop i kinds) w ≡ Err NoStatusWord
unfolding kind_among
kind_none w i h = ap (λ (ks : List StatusKind). kind_among ks w) (drop_of_length-le kinds {i = i} h)
