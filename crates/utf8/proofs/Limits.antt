-- What an answer of `admit` means for the caller's own answer. Assumes nothing.
use Rattle.std.specs.Prelude.{Result, Ok, Err}
use Prim.Native.Nat.{ℕ, ◌≤◌}
use mathlib.Core.Path.{◌≡◌, sym, ap, ◌∙◌}
use mathlib.Core.Bool.{Bool, true, false}
use mathlib.Core.List.{List}
use lib.ListN.{length}
use lib.Dec.{leb}
use borrow.Author.Tests.{leb-true}
use Rattle.refusal.specs.Result.{unless, unless_ok, err≢ok}
use Rattle.refusal.specs.declared.Refusal.{Refusal}
use Rattle.refusal.specs.declared.Refusal.TheVariants.{TooLong, NotUtf8}
use Rattle.utf8.specs.Utf8.{is_utf8}
use Rattle.utf8.specs.Limits.{admitted}

module _ (most : ℕ) (t : List ℕ) where
  -- short enough and UTF-8
  abbrev pub Fit : Type 0
  Fit = (leb (length t) most ≡ true) × (is_utf8 t ≡ true)

  -- an answer that was not turned back is the answer r, on a text that fits
  pub admitted_ok : {A : Type 0} (r : Result A Refusal) (a : A) → admitted most t r ≡ Ok a → Fit × (r ≡ Ok a)
  unfolding admitted
  admitted_ok r a h =
      let p = unless_ok (leb (length t) most) TooLong (unless (is_utf8 t) NotUtf8 r) a h in
      let q = unless_ok (is_utf8 t) NotUtf8 r a p.1 in
      ((p.0, q.0), q.1)

  pub too_long : {A : Type 0} (r : Result A Refusal) → leb (length t) most ≡ false → admitted most t r ≡ Err TooLong
  unfolding admitted
  too_long r h = rw h

  pub not_utf8 : {A : Type 0} (r : Result A Refusal) → leb (length t) most ≡ true → is_utf8 t ≡ false → admitted most t r ≡ Err NotUtf8
  unfolding admitted
  not_utf8 r h k = rw (h, k)

  pub fits : {A : Type 0} (r : Result A Refusal) → Fit → admitted most t r ≡ r
  unfolding admitted
  fits r h = rw (h.0, h.1)

-- by what `admit` answered
module _ (most : ℕ) (t : List ℕ) {o : Result (Unit {0}) Refusal} (said : o ≡ admitted most t (Ok tt)) where
  pub fine_fits : o ≡ Ok tt → Fit most t
  fine_fits e = (admitted_ok most t (Ok tt) tt (sym said ∙ e)).0

  pub fine_length : o ≡ Ok tt → length t ≤ most
  fine_length e = leb-true (length t) most (fine_fits e).0

  pub fine_utf8 : o ≡ Ok tt → is_utf8 t ≡ true
  fine_utf8 e = (fine_fits e).1

  pub admitted_fine : o ≡ Ok tt → {A : Type 0} (r : Result A Refusal) → admitted most t r ≡ r
  admitted_fine e r = fits most t r (fine_fits e)

  pub admitted_refused : {why : Refusal} → o ≡ Err why → {A : Type 0} (r : Result A Refusal) → admitted most t r ≡ Err why
  unfolding admitted
  admitted_refused {why} e {A} r = go (leb (length t) most) (is_utf8 t) (sym e ∙ said)
    where
      go : (a b : Bool) → ◌≡◌ {A = Result (Unit {0}) Refusal} (Err why) (unless a TooLong (unless b NotUtf8 (Ok tt))) → unless a TooLong (unless b NotUtf8 r) ≡ Err why
      go true true h = absurd (err≢ok h)
      go true false h = let e : why ≡ NotUtf8 = cc in ap (λ (w : Refusal). Err w) (sym e)
      go false b h = let e : why ≡ TooLong = cc in ap (λ (w : Refusal). Err w) (sym e)
