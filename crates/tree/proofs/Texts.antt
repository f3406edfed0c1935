-- A citation's text, character by character. Assumes nothing.
use mathlib.Core.Path.{◌≡◌, refl, sym}
use mathlib.Core.List.{List, []}
use mathlib.Core.Bool.{Bool, true, false, not, ◌&&◌}
use Prim.Native.Nat.{ℕ, ◌+◌}
use lib.ListN.{drop}
use lib.Seq.{drop-drop}
use borrow.Author.Tests.{eq-eqb, ne_eqb}
use Rattle.utf8.specs.Utf8.{is_utf8, decode, step_of, step_at}
use Rattle.utf8.specs.White.{is_white}
use Rattle.utf8.specs.declared.Step.TheVariants.{Char, Bad}
use Rattle.utf8.proofs.Laws.{step_char, step_bad, utf8_nil, decode_nil}
use Rattle.grammar.specs.Lex.{blank, cite_end}
use Rattle.grammar.specs.Citable.{holds, citable}
use Rattle.tree.proofs.Steps.{and_false}

-- the text from here on is citable, all before it being blank or not
unfoldable pub citable_from : Bool → List ℕ → Bool
citable_from b t = is_utf8 t && (not (b && blank (decode t)) && not (holds cite_end (decode t)))

pub citable_begin : (t : List ℕ) → citable_from true t ≡ citable t
unfolding citable_from citable
citable_begin t = refl

pub citable_bad : (b : Bool) (t : List ℕ) → step_of t ≡ Bad → false ≡ citable_from b t
unfolding citable_from
citable_bad b t h = rw (step_bad t h)

pub citable_end : (b : Bool) (t : List ℕ) → t ≡ [] → not b ≡ citable_from b t
unfolding citable_from blank holds
citable_end true t h = rw (h, utf8_nil, decode_nil)
citable_end false t h = rw (h, utf8_nil, decode_nil)

pub citable_closing : (b : Bool) (t : List ℕ) (c w : ℕ) → step_of t ≡ Char c w → c ≡ cite_end → false ≡ citable_from b t
unfolding citable_from holds
citable_closing b t c w h e =
    let s = step_char t c w h in
    and_false (is_utf8 t) _ (sym (and_false (not (b && blank (decode t))) _ (rw (s.1, eq-eqb c cite_end e))))

blank_step : (b : Bool) (x y : Bool) → (b && x) && y ≡ b && (x && y)
blank_step true x y = refl
blank_step false x y = refl

pub citable_char : (b : Bool) (t : List ℕ) (c w : ℕ) → step_of t ≡ Char c w → (c ≡ cite_end → ⊥) → citable_from (b && is_white c) (drop w t) ≡ citable_from b t
unfolding citable_from holds blank
citable_char b t c w h e =
    let s = step_char t c w h in
    rw (s.0, s.1, ne_eqb c cite_end e, blank_step b (is_white c) (blank (decode (drop w t))))

pub citable-next : (b : Bool) (s : List ℕ) (at c w : ℕ) → step_at s at ≡ Char c w → (c ≡ cite_end → ⊥) → citable_from (b && is_white c) (drop (at + w) s) ≡ citable_from b (drop at s)
citable-next b s at c w h e = rw (← drop-drop w at s) (citable_char b (drop at s) c w h e)
