-- How lexing goes on from token to token. Assumes nothing.
use Rattle.std.specs.Prelude.{Result, Ok, Err}
use Prim.Native.Nat.{ℕ, suc, ◌+◌, ◌-◌, ◌≤◌, ◌<◌}
use mathlib.Core.Path.{◌≡◌, refl, sym, ap, ◌∙◌, subst}
use mathlib.Core.Bool.{true}
use mathlib.Core.List.{List, [], ◌∷◌, ◌++◌, append-nil}
use native.Mathlib.Omega.{arith}
use native.Mathlib.Numerals.{add-one}
use lib.ListN.{length, take, drop, set, length-append, length-take, length-drop, length-set, take-append-drop, drop_of_length-le}
use native.Mathlib.Decide.{dec_lt}
use lib.Seq.{append_snoc, take-suc-set, take_all, take-nil, take-append-le, length-take-le, set_out, drop-set-lt}
use Rattle.refusal.specs.Result.{map_ok, then}
use Rattle.refusal.specs.declared.Refusal.{Refusal}
use Rattle.text.specs.Bytes.{over}
use Rattle.utf8.specs.Utf8.{is_utf8, decode}
use Rattle.grammar.specs.Expr.{concat}
use Rattle.grammar.specs.Lex.{Tok, cited, op, opening, closing, also, lex, texts}
use Rattle.grammar.specs.LexPrint.{before}
use Rattle.grammar.proofs.Bounds.{concat_append}
use Rattle.fields.proofs.Appends.{on}
use Rattle.lexer.specs.Tokens.{kind_of, kinds_of, deeper, depth, counted, limited, tokenized, counts_limited, placed}
use Rattle.lexer.specs.Scan.{Scan, halt, meets, scan, scanned, places_in, outcome, scan_lex}
use Rattle.lexer.specs.State.{Begins, token_end, InText, Stored, Marked, Cites, reading, State, Written, Ends}
use Rattle.lexer.specs.declared.Token.{Token}
use Rattle.lexer.specs.declared.Token.TheVariants.{Space, Mark, Cite}
use Rattle.utf8.specs.Limits.{text_limit}
use Rattle.lexer.specs.declared.Count.{Count}
use Rattle.lexer.specs.declared.TokenKind.{TokenKind}
use Rattle.lexer.specs.declared.TokenKind.TheVariants.{Citation}
use Rattle.lexer.specs.declared.Place.{Place}
use Rattle.lexer.specs.declared.Lexed.{Lexed}
use Rattle.lexer.proofs.Split.{none_left}
use Rattle.lexer.proofs.Limits.{depth_snoc, counts_limited_lem}

-- one value more
grown : {A : Type 0} (l : List A) (n : ℕ) (v : A) → n < length l → take (n + 1) (set l n v) ≡ take n l ++ (v ∷ [])
grown l n v h = ap (λ (m : ℕ). take m (set l n v)) (add-one n) ∙ take-suc-set l n v h

before_refused : (a : List Tok) (k : Refusal) → before a (Err k) ≡ Err k
unfolding before map_ok
before_refused a k = refl

before_none : (r : Result (List Tok) Refusal) → r ≡ before [] r
unfolding before map_ok
before_none (Ok ts) = refl
before_none (Err k) = refl

before_end : (a : List Tok) → before a (Ok []) ≡ Ok a
unfolding before map_ok
before_end a = ap Ok (append-nil a)

texts_snoc : (a : List Tok) (t : Tok) → texts (a ++ (t ∷ [])) ≡ texts a ++ texts (t ∷ [])
unfolding texts
texts_snoc [] t = refl
texts_snoc (cited u ∷ a) t = ap (λ (x : List (List ℕ)). u ∷ x) (texts_snoc a t)
texts_snoc (op o ∷ a) t = texts_snoc a t
texts_snoc (opening ∷ a) t = texts_snoc a t
texts_snoc (closing ∷ a) t = texts_snoc a t

texts_plain : (a : List Tok) (t : Tok) → texts (t ∷ []) ≡ [] → texts (a ++ (t ∷ [])) ≡ texts a
texts_plain a t h = texts_snoc a t ∙ ap (λ (x : List (List ℕ)). texts a ++ x) h ∙ append-nil (texts a)

texts_cited : (a : List Tok) (u : List ℕ) → texts (a ++ (cited u ∷ [])) ≡ texts a ++ (u ∷ [])
unfolding texts
texts_cited a u = texts_snoc a (cited u)

pub kinds-length : (ts : List Tok) → length (kinds_of ts) ≡ length ts
unfolding kinds_of
kinds-length [] = refl
kinds-length (t ∷ ts) = ap suc (kinds-length ts)

kinds_snoc : (a : List Tok) (t : Tok) → kinds_of (a ++ (t ∷ [])) ≡ kinds_of a ++ (kind_of t ∷ [])
unfolding kinds_of
kinds_snoc [] t = refl
kinds_snoc (u ∷ a) t = ap (λ (x : List TokenKind). kind_of u ∷ x) (kinds_snoc a t)

cites-depth : (d : ℕ) (t : List ℕ) → deeper d (kind_of (cited t)) ≡ d
unfolding kind_of
cites-depth d t = refl

one_text : (t : List ℕ) → length (concat (t ∷ [])) ≡ length t
unfolding concat
one_text t = ap length (append-nil t)

longer : (a : List Tok) (t : Tok) → length (a ++ (t ∷ [])) ≡ length a + 1
longer a t = length-append a (t ∷ [])

-- the places after one citation more: stored, where there is room
held_on : (places : List Place) (m : ℕ) (v : Place) (sites : List Place) → m ≡ length sites → take m places ≡ take (length places) sites
    → take (m + 1) (set places m v) ≡ take (length (set places m v)) (sites ++ (v ∷ []))
held_on places m v sites e h =
    rw (length-set places m v)
    elim (dec_lt m (length places)) [
      | yes l ↦
          (let n : length (sites ++ (v ∷ [])) ≤ length places = omega (arith, length-append sites (v ∷ [])) in
          grown places m v l
          ∙ ap (λ (x : List Place). x ++ (v ∷ [])) (h ∙ take_all (length places) sites (omega arith))
          ∙ sym (take_all (length places) (sites ++ (v ∷ [])) n))
      | no l ↦
          (let q : length places ≤ m = omega arith in
          ap (take (m + 1)) (set_out places m v q)
          ∙ take_all (m + 1) places (omega arith)
          ∙ sym (take_all m places q)
          ∙ h
          ∙ sym (take-append-le (length places) sites (v ∷ []) (omega arith)))
    ]

before-also : (a : List Tok) (t : Tok) (r : Result (List Tok) Refusal) → before a (also t r) ≡ before (a ++ (t ∷ [])) r
unfolding before map_ok
before-also a t (Ok us) = ap Ok (sym (append_snoc a t us))
before-also a t (Err k) = refl

-- one token before others
meets_tokens : (a : List Tok) (at : ℕ) (t : Tok) (r : Scan) → a ++ scanned (meets at t r) ≡ (a ++ (t ∷ [])) ++ scanned r
unfolding scanned
meets_tokens a at t r = sym (append_snoc a t (scanned r))

meets-outcome : (a : List Tok) (at : ℕ) (t : Tok) (r : Scan) → before a (outcome (meets at t r)) ≡ before (a ++ (t ∷ [])) (outcome r)
unfolding outcome
meets-outcome a at t r = before-also a t (outcome r)

meets_plain : (at : ℕ) (t : Tok) (r : Scan) → texts (t ∷ []) ≡ [] → places_in (meets at t r) ≡ places_in r
unfolding places_in texts
meets_plain at (cited u) r h = absurd (omega (arith, ap length h))
meets_plain at (op o) r h = refl
meets_plain at opening r h = refl
meets_plain at closing r h = refl

meets_cited : (b : List Place) (at : ℕ) (u : List ℕ) (r : Scan) → b ++ places_in (meets at (cited u) r) ≡ (b ++ (placed at (length u) ∷ [])) ++ places_in r
unfolding places_in
meets_cited b at u r = sym (append_snoc b (placed at (length u)) (places_in r))

halt_none : (why : Refusal) → (scanned (halt why) ≡ []) × (places_in (halt why) ≡ []) × (outcome (halt why) ≡ Err why)
unfolding scanned places_in outcome
halt_none why = (refl, refl, refl)

last_none : (at : ℕ) → (scanned (scan at []) ≡ []) × (places_in (scan at []) ≡ []) × (outcome (scan at []) ≡ Ok [])
unfolding scan scanned places_in outcome
last_none at = (refl, refl, refl)

pub state_start : (s : List ℕ) (kinds : List TokenKind) (places : List Place) → is_utf8 s ≡ true → State s kinds places 0 (record { tokens = 0; cites = 0; bytes = 0; depth = 0 })
unfolding texts concat kinds_of depth
state_start s kinds places u = record {
  done = [];
  sites = [];
  room = omega arith;
  tokens_room = omega arith;
  cites-room = omega arith;
  bytes-room = omega arith;
  tokens = refl;
  cites = refl;
  spots = refl;
  bytes = refl;
  deep = refl;
  well = u;
  goes = refl;
  stands = refl;
  ends = before_none (outcome (reading s));
  shown = refl;
  held = sym (take-nil (length places));
}

pub token_sized : (s : List ℕ) (at : ℕ) (token : Token) → Begins s at (Ok token) → length s ≤ text_limit → InText token
token_sized s at (Space q) b l = tt
token_sized s at (Mark k q) b l = tt
token_sized s at (Cite from end) b l = (b.order, omega (arith, b.ahead.room, l))

-- from p on to q nothing was written but what was read
pub record Rests (kinds₀ : List TokenKind) (places₀ : List Place) (kinds : List TokenKind) (places : List Place) (p q : Count) : Type 0 where
  pub tokens : p.tokens ≤ q.tokens
  pub cites : p.cites ≤ q.cites
  pub kinds_rest : drop q.tokens kinds ≡ drop q.tokens kinds₀
  pub places_rest : drop q.cites places ≡ drop q.cites places₀

-- what one turn leaves as it was
module _ (kinds : List TokenKind) (places : List Place) (p : Count) where
  rests_space : Rests kinds places kinds places p p
  rests_space = record { tokens = omega arith; cites = omega arith; kinds_rest = refl; places_rest = refl }

  rests_mark : (k : TokenKind) (depth : ℕ) → Rests kinds places (set kinds p.tokens k) places p (record { tokens = p.tokens + 1; cites = p.cites; bytes = p.bytes; depth = depth })
  rests_mark k depth = record { tokens = omega arith; cites = omega arith; kinds_rest = drop-set-lt (p.tokens + 1) kinds p.tokens k (omega arith); places_rest = refl }

  rests_cite : (k : TokenKind) (v : Place) (bytes depth : ℕ) → Rests kinds places (set kinds p.tokens k) (set places p.cites v) p (record { tokens = p.tokens + 1; cites = p.cites + 1; bytes = bytes; depth = depth })
  rests_cite k v bytes depth = record {
    tokens = omega arith;
    cites = omega arith;
    kinds_rest = drop-set-lt (p.tokens + 1) kinds p.tokens k (omega arith);
    places_rest = drop-set-lt (p.cites + 1) places p.cites v (omega arith);
  }

-- what further turns leave as it was
pub rests_on : (kinds₀ : List TokenKind) (places₀ : List Place) (kinds : List TokenKind) (places : List Place) (kinds' : List TokenKind) (places' : List Place) (p q : Count) → Rests kinds places kinds' places' p q → drop p.tokens kinds ≡ drop p.tokens kinds₀ → drop p.cites places ≡ drop p.cites places₀
    → (drop q.tokens kinds' ≡ drop q.tokens kinds₀) × (drop q.cites places' ≡ drop q.cites places₀)
rests_on kinds₀ places₀ kinds places kinds' places' p q r a b =
    (r.kinds_rest ∙ on p.tokens q.tokens kinds₀ kinds r.tokens a, r.places_rest ∙ on p.cites q.cites places₀ places r.cites b)

module _ {s : List ℕ} {kinds : List TokenKind} {places : List Place} {at : ℕ} {p : Count} (h : State s kinds places at p) where
  state_mark : (k : TokenKind) (q d : ℕ) → Marked s at k q → p.tokens < length kinds → d ≡ deeper p.depth k
      → State s (set kinds p.tokens k) places q (record { tokens = p.tokens + 1; cites = p.cites; bytes = p.bytes; depth = d })
  state_mark k q d m l r =
      let a = m.ahead in
      let e = texts_plain h.done m.tok m.plain in
      record {
        done = h.done ++ (m.tok ∷ []);
        sites = h.sites;
        room = a.room;
        tokens_room = omega (arith, a.later, h.tokens_room);
        cites-room = omega (arith, a.later, h.cites-room);
        bytes-room = omega (arith, a.later, h.bytes-room);
        tokens = omega (arith, h.tokens, longer h.done m.tok);
        cites = h.cites ∙ ap length (sym e);
        spots = h.spots;
        bytes = h.bytes ∙ ap (λ (x : List (List ℕ)). length (concat x)) (sym e);
        deep = r ∙ ap (λ (x : ℕ). deeper x k) h.deep ∙ ap (deeper (depth 0 h.done)) (sym m.kind) ∙ sym (depth_snoc 0 h.done m.tok);
        well = a.well;
        goes = h.goes ∙ ap (λ x. h.done ++ scanned x) m.goes ∙ meets_tokens h.done at m.tok (scan q (decode (drop q s)));
        stands = h.stands ∙ ap (λ x. h.sites ++ places_in x) m.goes ∙ ap (λ x. h.sites ++ x) (meets_plain at m.tok (scan q (decode (drop q s))) m.plain);
        ends = h.ends ∙ ap (λ x. before h.done (outcome x)) m.goes ∙ meets-outcome h.done at m.tok (scan q (decode (drop q s)));
        shown =
            grown kinds p.tokens k l
            ∙ ap (λ (x : List TokenKind). x ++ (k ∷ [])) h.shown
            ∙ ap (λ (j : TokenKind). kinds_of h.done ++ (j ∷ [])) (sym m.kind)
            ∙ sym (kinds_snoc h.done m.tok);
        held = h.held;
      }

  state_cite : (from end : ℕ) (v : Place) → Cites s at from end → p.tokens < length kinds → v ≡ placed from (end - from)
      → State s (set kinds p.tokens Citation) (set places p.cites v) (end + 1) (record { tokens = p.tokens + 1; cites = p.cites + 1; bytes = p.bytes + (end - from); depth = p.depth })
  unfolding kind_of
  state_cite from end v m l k =
      let a = m.ahead in
      let t = take (end - from) (drop from s) in
      let e = texts_cited h.done t in
      let w : length t ≡ end - from = length-take-le (end - from) (drop from s) (omega (arith, length-drop from s, a.room, m.order)) in
      let c : placed from (length t) ≡ v = ap (placed from) w ∙ sym k in
      record {
        done = h.done ++ (cited t ∷ []);
        sites = h.sites ++ (v ∷ []);
        room = a.room;
        tokens_room = omega (arith, m.later, m.order, h.tokens_room);
        cites-room = omega (arith, m.later, m.order, h.cites-room);
        bytes-room = omega (arith, m.later, m.order, h.bytes-room);
        tokens = omega (arith, h.tokens, longer h.done (cited t));
        cites = omega (arith, h.cites, length-append (texts h.done) (t ∷ []), ap length e);
        spots = omega (arith, h.spots, length-append h.sites (v ∷ []));
        bytes =
            omega (arith, h.bytes, w, one_text t, ap (λ (x : List (List ℕ)). length (concat x)) e, ap length (concat_append (texts h.done) (t ∷ [])), length-append (concat (texts h.done)) (concat (t ∷ [])));
        deep = h.deep ∙ sym (cites-depth (depth 0 h.done) t) ∙ sym (depth_snoc 0 h.done (cited t));
        well = a.well;
        goes = h.goes ∙ ap (λ x. h.done ++ scanned x) m.goes ∙ meets_tokens h.done from (cited t) (scan (end + 1) (decode (drop (end + 1) s)));
        stands = h.stands ∙ ap (λ x. h.sites ++ places_in x) m.goes ∙ meets_cited h.sites from t (scan (end + 1) (decode (drop (end + 1) s))) ∙ ap (λ (x : Place). (h.sites ++ (x ∷ [])) ++ places_in (scan (end + 1) (decode (drop (end + 1) s)))) c;
        ends = h.ends ∙ ap (λ x. before h.done (outcome x)) m.goes ∙ meets-outcome h.done from (cited t) (scan (end + 1) (decode (drop (end + 1) s)));
        shown = grown kinds p.tokens Citation l ∙ ap (λ (x : List TokenKind). x ++ (Citation ∷ [])) h.shown ∙ sym (kinds_snoc h.done (cited t));
        held = held_on places p.cites v h.sites h.spots h.held;
      }

  state_space : (q : ℕ) → Begins s at (Ok (Space q)) → State s kinds places q p
  state_space q b = record {
    done = h.done;
    sites = h.sites;
    room = b.0.room;
    tokens_room = omega (arith, b.0.later, h.tokens_room);
    cites-room = omega (arith, b.0.later, h.cites-room);
    bytes-room = omega (arith, b.0.later, h.bytes-room);
    tokens = h.tokens;
    cites = h.cites;
    spots = h.spots;
    bytes = h.bytes;
    deep = h.deep;
    well = b.0.well;
    goes = h.goes ∙ ap (λ x. h.done ++ scanned x) b.1;
    stands = h.stands ∙ ap (λ x. h.sites ++ places_in x) b.1;
    ends = h.ends ∙ ap (λ x. before h.done (outcome x)) b.1;
    shown = h.shown;
    held = h.held;
  }

  pub state_more : (token : Token) → Begins s at (Ok token) → p.tokens < length kinds → (kinds' : List TokenKind) (places' : List Place) (q : Count) → Stored token kinds places kinds' places' p q
      → State s kinds' places' (token_end token) q × Rests kinds places kinds' places' p q
  state_more (Space end) b l kinds' places' q v = rw (v.0, v.1, v.2) (state_space end b, rests_space kinds places p)
  state_more (Mark k end) b l kinds' places' q v = rw (v.0, v.1, v.2) (state_mark k end (deeper p.depth k) b l refl, rests_mark kinds places p k (deeper p.depth k))
  state_more (Cite from end) b l kinds' places' q v =
      rw (v.0, v.1, v.2) (state_cite from end (placed from (end - from)) b l refl, rests_cite kinds places p Citation (placed from (end - from)) (p.bytes + (end - from)) p.depth)

  -- what was written since lexing began
  module _ (kinds₀ : List TokenKind) (places₀ : List Place) (same : length places ≡ length places₀) (restk : drop p.tokens kinds ≡ drop p.tokens kinds₀) (restp : drop p.cites places ≡ drop p.cites places₀) where
    kinds-over : kinds ≡ over (kinds_of h.done) kinds₀
    kinds-over =
        sym (take-append-drop p.tokens kinds)
        ∙ ap (λ x. x ++ drop p.tokens kinds) h.shown
        ∙ ap (λ x. kinds_of h.done ++ x) restk
        ∙ ap (λ (n : ℕ). kinds_of h.done ++ drop n kinds₀) (h.tokens ∙ sym (kinds-length h.done))

    sites_rest : drop p.cites places₀ ≡ drop (length (take (length places₀) h.sites)) places₀
    sites_rest = go (dec_lt (length places₀) p.cites)
      where
        go : Dec (length places₀ < p.cites) → drop p.cites places₀ ≡ drop (length (take (length places₀) h.sites)) places₀
        go (yes l) =
            drop_of_length-le places₀ {i = p.cites} (omega arith)
            ∙ sym (drop_of_length-le places₀ {i = length (take (length places₀) h.sites)} (omega (arith, h.spots, length-take (length places₀) h.sites)))
        go (no l) =
            let e : p.cites ≡ length (take (length places₀) h.sites) = omega (arith, h.spots, length-take (length places₀) h.sites) in
            ap (λ (n : ℕ). drop n places₀) e

    places_over : places ≡ over (take (length places₀) h.sites) places₀
    places_over =
        sym (take-append-drop p.cites places)
        ∙ ap (λ x. x ++ drop p.cites places) (h.held ∙ ap (λ (n : ℕ). take n h.sites) same)
        ∙ ap (λ x. take (length places₀) h.sites ++ x) (restp ∙ sites_rest)

    written : (r : Scan) → scan at (decode (drop at s)) ≡ r → scanned r ≡ [] → places_in r ≡ [] → Written s kinds₀ places₀ kinds places
    written r e t q =
        let a : h.done ≡ scanned (reading s) = sym (h.goes ∙ ap (λ x. h.done ++ x) (ap scanned e ∙ t) ∙ append-nil h.done) in
        let b : h.sites ≡ places_in (reading s) = sym (h.stands ∙ ap (λ x. h.sites ++ x) (ap places_in e ∙ q) ∙ append-nil h.sites) in
        (kinds-over ∙ ap (λ x. over (kinds_of x) kinds₀) a, places_over ∙ ap (λ x. over (take (length places₀) x) places₀) b)

    -- lexing stops
    pub state_off : (why : Refusal) → scan at (decode (drop at s)) ≡ halt why → Ends s kinds₀ places₀ kinds places (Err why)
    state_off why e =
        let n = halt_none why in
        (sym (scan_lex 0 (decode s)) ∙ h.ends ∙ ap (λ x. before h.done (outcome x)) e ∙ ap (before h.done) n.2 ∙ before_refused h.done why, written (halt why) e n.0 n.1)

    -- at the end of the text
    pub state_on : length s ≤ at → Ends s kinds₀ places₀ kinds places (Ok p)
    state_on l =
        let n = last_none at in
        (subst (λ (x : ℕ). State s kinds places x p) (omega (arith, l, h.room)) h, written (scan at []) (ap (scan at) (none_left s at l)) n.0 n.1)

  state_end : length s ≤ at → lex (decode s) ≡ Ok h.done
  state_end l =
      sym (scan_lex 0 (decode s)) ∙ h.ends ∙ ap (λ (x : List ℕ). before h.done (outcome (scan at x))) (none_left s at l) ∙ ap (before h.done) (last_none at).2 ∙ before_end h.done

-- what `lex` answers and writes
abbrev pub Answers : (s : List ℕ) (kinds₀ : List TokenKind) (places₀ : List Place) (kinds : List TokenKind) (places : List Place) → Result Lexed Refusal → Type 0
Answers s kinds₀ places₀ kinds places r = (r ≡ map_ok counted (tokenized (decode s))) × Written s kinds₀ places₀ kinds places

pub lex_off : (s : List ℕ) (kinds₀ : List TokenKind) (places₀ : List Place) (kinds : List TokenKind) (places : List Place) (why : Refusal) → Ends s kinds₀ places₀ kinds places (Err why) → Answers s kinds₀ places₀ kinds places (Err why)
unfolding tokenized then map_ok
lex_off s kinds₀ places₀ kinds places why e =
    let x : tokenized (decode s) ≡ Err why = rw e.0 in
    (sym (ap (map_ok counted) x), e.1)

pub lex_on : (s : List ℕ) (kinds₀ : List TokenKind) (places₀ : List Place) (kinds : List TokenKind) (places : List Place) (p : Count) → Ends s kinds₀ places₀ kinds places (Ok p) → (r : Result Lexed Refusal) → r ≡ counts_limited p → Answers s kinds₀ places₀ kinds places r
unfolding tokenized then
lex_on s kinds₀ places₀ kinds places p g r e =
    let h = g.0 in
    let x : tokenized (decode s) ≡ limited h.done = rw (state_end h (omega arith)) in
    let c = counts_limited_lem p h.done h.tokens h.cites h.bytes h.deep in
    (e ∙ c ∙ ap (map_ok counted) (sym x), g.1)
