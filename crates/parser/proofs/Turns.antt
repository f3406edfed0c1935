-- The parser's turns: what was read and written before, and after. Assumes nothing.
use Rattle.std.specs.Prelude.{Ok, Err, Some, None}
use mathlib.Core.Path.{◌≡◌, refl, sym, ap, ◌∙◌, subst}
use mathlib.Core.Bool.{true, false}
use mathlib.Core.List.{List, [], ◌∷◌, ◌++◌}
use Prim.Native.Nat.{ℕ, suc, ◌+◌, ◌-◌, ◌*◌, ◌≤◌, ◌<◌}
use native.Mathlib.Omega.{arith}
use lib.ListN.{length, get_or, set}
use Rattle.refusal.specs.declared.Refusal.{Refusal}
use Rattle.refusal.specs.declared.Refusal.TheVariants.{MissingOperand, Parentheses}
use Rattle.grammar.specs.Expr.{Op, And, Or, Xor, Expr, Exprs, cite, Then, join, none, more, ◌◂◌, ◌⧺◌, ◌▸◌, citations, citations_of, count}
use Rattle.grammar.specs.Lex.{op}
use Rattle.grammar.specs.Parse.{same, gather}
use Rattle.grammar.specs.Rows.{many, span, spans}
use Rattle.grammar.specs.Reading.{citation_limit}
use Rattle.grammar.specs.Kinds.{sign_kind}
use Rattle.grammar.specs.Shape.{two_many}
use Rattle.grammar.proofs.Steps.{gather_two}
use Rattle.grammar.specs.declared.NodeKind.{NodeKind}
use Rattle.grammar.specs.declared.NodeKind.TheVariants as node
use Rattle.parser.specs.Packed.{pack, node_row, postorder, postorders}
use Rattle.parser.specs.Tokens.{from, op_ahead, operand_ahead}
use Rattle.parser.specs.Reading.{Jux, Links}
use Rattle.parser.specs.States.{Held, Within, Tree, Ready, Front, AtomSays, JuxSays, ChainSays, Running, Before, After, noded, past, noded_rows}
use Rattle.lexer.specs.declared.TokenKind.{TokenKind}
use Rattle.lexer.specs.declared.TokenKind.TheVariants.{Citation, Opening}
use Rattle.parser.specs.declared.Pos.{Pos}
use Rattle.parser.specs.declared.Row.{Row}
use Rattle.parser.proofs.Steps.{ends-if, stops_if, atom_cite, atom_group, atom_unclosed, atom_inner, atom_missing, run-first, run_more, run_fails, run_ends, chain_lead, waits_lead, chain_operand, waits_again, waits_other, chain_whole}
use Rattle.parser.proofs.Ahead.{from_end, cite_here, open_here, no_operand, close_here, Sign, sign_here, op_inside, cites_cite, cites-any}
use Rattle.parser.proofs.Orders.{many_append, many_one}
use Rattle.parser.proofs.Holding.{front_less, front_set, held_cite, held_more, held_node}

-- places with the same numbers are the same
pub same_pos : (p q : Pos) → p.at ≡ q.at → p.rows ≡ q.rows → p.cites ≡ q.cites → p ≡ q
same_pos p q a r c =
    let same : ◌≡◌ {A = Pos} (record { at = p.at; rows = p.rows; cites = p.cites }) (record { at = q.at; rows = q.rows; cites = q.cites }) = rw (a, r, c) in same

-- numbers

module _ (s : List TokenKind) (p : Pos) where
  -- reading may go on
  pub ready_inner : (room : ℕ) → Ready s room p → p.at < length s → Ready s room (past p)
  ready_inner room r h = record {
    short = r.short;
    inside = omega arith;
    few = omega (arith, r.few, cites-any s p.at);
    space = omega (arith, r.space, cites-any s p.at);
  }

  -- there is a row for the node of the operands that wait
  pub row_left : (room at rows cites kids : ℕ) → Ready s room p → Within s p at rows cites kids → 2 ≤ kids → (rows < room) × (kids ≤ citation_limit) × (rows ≤ p.rows + 2 * citation_limit)
  row_left room at rows cites kids r w h = (
    omega (arith, r.space, w.left, w.room),
    omega (arith, r.few, w.left, w.few),
    omega (arith, r.few, w.left, w.room),
  )

  -- one operand more
  within_more : (q : Pos) (kids : ℕ) (n : Pos) → Within s p q.at q.rows q.cites kids → Within s q n.at n.rows n.cites 1
      → Within s p n.at n.rows n.cites (kids + 1)
  within_more q kids n v w = record {
    later = omega (arith, v.later, w.later);
    inside = w.inside;
    above = omega (arith, v.above, w.above);
    left = omega (arith, v.left, w.left);
    room = omega (arith, v.room, w.room);
    few = omega (arith, v.few, w.few);
  }

-- a node of the operands that wait

module _ (s : List TokenKind) (p : Pos) (work : List Row) (q : Pos) (kind : NodeKind) (kids : ℕ) (es : Exprs)
    (h : Held p.rows p.cites work q.rows q.cites es) (w : Within s p q.at q.rows q.cites kids)
    (kidded : kids ≡ many es) (two : 2 ≤ kids) (room : q.rows < length work) where
  row_is : pack kind kids (q.rows + 1 - p.rows) ≡ node_row kind es
  row_is =
      let z : q.rows + 1 - p.rows ≡ suc (spans es) = omega (arith, h.sized) in
      ap (λ m. pack kind m (q.rows + 1 - p.rows)) kidded ∙ ap (λ m. pack kind (many es) m) z

  made : (e : Expr) → postorder p.cites e ≡ postorders p.cites es ++ (node_row kind es ∷ []) → span e ≡ suc (spans es)
      → count e ≡ length (citations_of es) → Tree s p (noded_rows work p.rows q kind kids) (noded q) e
  made e o z c = record {
    held = held_node p.rows p.cites work q.rows q.cites es h kind _ e room row_is o z c;
    within = record {
      later = w.later;
      inside = w.inside;
      above = omega (arith, w.above);
      left = w.left;
      room = omega (arith, w.room);
      few = omega (arith, w.few);
    };
  }

  made_then : kind ≡ node.Then → Tree s p (noded_rows work p.rows q kind kids) (noded q) (Then es)
  unfolding postorder span citations
  made_then k = made (Then es) (ap (λ x. postorders p.cites es ++ (node_row x es ∷ [])) (sym k)) refl refl

  made_join : (o : Op) → kind ≡ sign_kind o → Tree s p (noded_rows work p.rows q kind kids) (noded q) (join o es)
  unfolding postorder span citations
  made_join o k = made (join o es) (ap (λ x. postorders p.cites es ++ (node_row x es ∷ [])) (sym k)) refl refl

-- atoms

module _ (s : List TokenKind) (p : Pos) (old : List Row) where
  pub atom_at_end : length s ≤ p.at → AtomSays s p old old (Err MissingOperand)
  atom_at_end h = rw (from_end s p.at (omega arith)) (atom_missing [] tt)

  module _ (here : p.at < length s) where
    pub atom_none : ¬ (get_or s p.at Citation ≡ Opening) → ¬ (get_or s p.at Citation ≡ Citation) → AtomSays s p old old (Err MissingOperand)
    atom_none h k = atom_missing (from s p.at) (no_operand s p.at here k h)

    pub atom_cited : get_or s p.at Citation ≡ Citation → p.rows < length old → (v : Row) → v ≡ pack node.Citation p.cites 1
        → AtomSays s p old (set old p.rows v) (Ok (record { at = p.at + 1; rows = p.rows + 1; cites = p.cites + 1 }))
    atom_cited k l v e = (
      cite [],
      rw (cite_here s p.at here k) atom_cite,
      record {
        held = held_cite p.rows p.cites old [] v l e;
        within = record {
          later = omega arith;
          inside = omega arith;
          above = omega arith;
          left = omega (arith, cites_cite s p.at here k);
          room = omega arith;
          few = omega arith;
        };
      },
      front_set p.rows old p.rows v (omega arith),
    )

    module _ (open_at : get_or s p.at Citation ≡ Opening) (new : List Row) where
      abbrev inner : Pos
      inner = past p

      pub atom_fails : (why : Refusal) → ChainSays s inner old new (Err why) → AtomSays s p old new (Err why)
      atom_fails why g = rw (open_here s p.at here open_at) (atom_inner g)

      pub atom_open : (q : Pos) → ChainSays s inner old new (Ok q) → q.at ≡ length s → AtomSays s p old new (Err Parentheses)
      atom_open q g z = rw (open_here s p.at here open_at) (atom_unclosed (rw (from_end s q.at (omega arith)) at g.1))

      pub atom_grouped : (q : Pos) → ChainSays s inner old new (Ok q) → ¬ (q.at ≡ length s)
          → AtomSays s p old new (Ok (past q))
      atom_grouped q g z =
          let t = g.2 in
          let w = t.within in
          let i : q.at < length s = omega (arith, w.inside) in (
            g.0,
            rw (open_here s p.at here open_at) (atom_group (rw (close_here s q.at i g.1.stops) at g.1)),
            record {
              held = t.held;
              within = record {
                later = omega (arith, w.later);
                inside = omega arith;
                above = w.above;
                left = omega (arith, w.left, cites-any s q.at, cites-any s p.at);
                room = w.room;
                few = w.few;
              };
            },
            g.3,
          )

-- juxtapositions

-- one operand alone is the juxtaposition
gather_one : (run : Exprs) → many run ≡ 1 → run ≡ gather run ◂ none
unfolding gather many
gather_one (more e none) h = refl
gather_one none h = absurd (omega arith)
gather_one (more e (more f run)) h = absurd (omega arith)

-- one operand more
more_many : (es : Exprs) (e : Expr) → many (es ▸ e) ≡ many es + 1
more_many es e = many_append es (e ◂ none) ∙ ap (λ x. many es + x) (many_one e)

module _ (s : List TokenKind) (p : Pos) where
  pub run_starts : (old new : List Row) (q : Pos) → AtomSays s p old new (Ok q) → Running s p new q 1 × Front p.rows old new
  unfolding ◌⧺◌
  run_starts old new q g =
      (record { run = g.0 ◂ none; goes = run-first g.1; held = g.2.held; within = g.2.within; number = sym (many_one g.0); some = omega arith }, g.3)

  module _ (work : List Row) (q : Pos) (kids : ℕ) (run : Running s p work q kids) where
    pub run_breaks : true ≡ operand_ahead (from s q.at) → (old new : List Row) (why : Refusal) → AtomSays s q work new (Err why)
        → JuxSays s p old new (Err why)
    run_breaks b old new why g = run_fails run.goes (sym b) g

    pub run_goes : (new : List Row) (n : Pos) → AtomSays s q work new (Ok n) → Running s p new n (kids + 1) × Front p.rows work new
    run_goes new n g =
        let t = g.2 in (
          record {
            run = run.run ▸ g.0;
            goes = run_more run.goes g.1;
            held = held_more p.rows p.cites work q.rows q.cites run.run run.held new n.rows n.cites g.0 t.held g.3;
            within = within_more s p q kids n run.within t.within;
            number = ap (λ x. x + 1) run.number ∙ sym (more_many run.run g.0);
            some = omega arith;
          },
          front_less p.rows q.rows work new run.within.above g.3,
        )

    module _ (old : List Row) (b : false ≡ operand_ahead (from s q.at)) (f : Front p.rows old work) where
      gathered : Jux (from s p.at) (from s q.at) (gather run.run)
      gathered = run_ends run.goes (ends-if (from s q.at) (sym b))

      pub jux_one : kids ≡ 1 → JuxSays s p old work (Ok q)
      jux_one k = (
        gather run.run,
        gathered,
        record {
          held = subst (λ x. Held p.rows p.cites work q.rows q.cites x) (gather_one run.run (sym run.number ∙ k)) run.held;
          within = subst (λ x. Within s p q.at q.rows q.cites x) k run.within;
        },
        f,
      )

      pub jux_many : 2 ≤ kids → q.rows < length work → JuxSays s p old (noded_rows work p.rows q node.Then kids) (Ok (noded q))
      jux_many k room = (
        Then run.run,
        subst (λ x. Jux (from s p.at) (from s q.at) x) (gather_two run.run (two_many run.run (omega (arith, run.number)))) gathered,
        made_then s p work q node.Then kids run.run run.held run.within run.number k room refl,
        front_set p.rows work q.rows _ run.within.above ∙ f,
      )

-- chains

same_sign : (a b : Op) → sign_kind a ≡ sign_kind b → a ≡ b
unfolding sign_kind
same_sign And And h = refl
same_sign And Or h = absurd cc
same_sign And Xor h = absurd cc
same_sign Or And h = absurd cc
same_sign Or Or h = refl
same_sign Or Xor h = absurd cc
same_sign Xor And h = absurd cc
same_sign Xor Or h = absurd cc
same_sign Xor Xor h = refl

other_sign : (a b : Op) → ¬ (sign_kind a ≡ sign_kind b) → same a b ≡ false
unfolding sign_kind same
other_sign And And h = absurd (h refl)
other_sign And Or h = refl
other_sign And Xor h = refl
other_sign Or And h = refl
other_sign Or Or h = absurd (h refl)
other_sign Or Xor h = refl
other_sign Xor And h = refl
other_sign Xor Or h = refl
other_sign Xor Xor h = absurd (h refl)

module _ (s : List TokenKind) (p : Pos) where
  pub chain_alone : (old new : List Row) (q : Pos) → JuxSays s p old new (Ok q) → None ≡ op_ahead (from s q.at) → ChainSays s p old new (Ok q)
  chain_alone old new q g z = (g.0, chain_lead g.1 (stops_if (from s q.at) g.1.ends z), g.2, g.3)

  -- past the operator after a lead
  pub chain_starts : (old new : List Row) (q : Pos) → JuxSays s p old new (Ok q) → (k : NodeKind) → Some k ≡ op_ahead (from s q.at)
      → Before s p new (past q) k 1 × Front p.rows old new
  chain_starts old new q g k is =
      let sign = sign_here s q.at k is in
      let here : q.at < length s = op_inside s q.at k is in
      let w = g.2.within in (
        record {
          sign = sign.sign;
          es = g.0 ◂ none;
          goes = waits_lead (subst (λ x. Jux (from s p.at) x g.0) sign.is g.1);
          held = g.2.held;
          within = record {
            later = omega (arith, w.later);
            inside = omega (arith, here);
            above = w.above;
            left = omega (arith, w.left, cites-any s q.at);
            room = w.room;
            few = w.few;
          };
          kinded = sign.kind;
          kidded = sym (many_one g.0);
          some = omega arith;
        },
        g.3,
      )

  -- by an equal number of operands
  pub recounted : {work : List Row} {q : Pos} {kind : NodeKind} {m n : ℕ} → Before s p work q kind m → m ≡ n → Before s p work q kind n
  recounted {work} {q} {kind} b h = subst (λ x. Before s p work q kind x) h b

  module _ (work : List Row) (q : Pos) (kind : NodeKind) (kids : ℕ) (b : Before s p work q kind kids) where
    pub chain_goes : (new : List Row) (n : Pos) → JuxSays s q work new (Ok n) → After s p new n kind (kids + 1) × Front p.rows work new
    chain_goes new n g =
        let t = g.2 in (
          record {
            sign = b.sign;
            es = b.es ▸ g.0;
            goes = chain_operand b.goes g.1;
            held = held_more p.rows p.cites work q.rows q.cites b.es b.held new n.rows n.cites g.0 t.held g.3;
            within = within_more s p q kids n b.within t.within;
            kinded = b.kinded;
            kidded = ap (λ x. x + 1) b.kidded ∙ sym (more_many b.es g.0);
            two = omega (arith, b.some);
          },
          front_less p.rows q.rows work new b.within.above g.3,
        )

  -- past the operator after an operand, or at the end
  module _ (work : List Row) (q : Pos) (kind : NodeKind) (kids : ℕ) (a : After s p work q kind kids) where
    module _ (k : NodeKind) (is : Some k ≡ op_ahead (from s q.at)) where
      abbrev sign_next : Sign (from s q.at) (from s (q.at + 1)) k
      sign_next = sign_here s q.at k is

      -- one token on, no less is within
      passed : (rows waiting : ℕ) → Within s p q.at rows q.cites waiting → Within s p (q.at + 1) rows q.cites waiting
      passed rows waiting w =
          let here = op_inside s q.at k is in
          record {
            later = omega (arith, w.later);
            inside = omega (arith, here);
            above = w.above;
            left = omega (arith, w.left, cites-any s q.at);
            room = w.room;
            few = w.few;
          }

      links : Links (from s p.at) (op sign_next.sign ∷ from s (q.at + 1)) a.sign a.es
      links = subst (λ x. Links (from s p.at) x a.sign a.es) sign_next.is a.goes

      -- its own operator
      pub chain_again : k ≡ kind → Before s p work (past q) kind kids
      chain_again h =
          let sign-is : sign_next.sign ≡ a.sign = same_sign sign_next.sign a.sign (sym sign_next.kind ∙ h ∙ a.kinded) in
          record {
            sign = a.sign;
            es = a.es;
            goes = waits_again (subst (λ x. Links (from s p.at) (op x ∷ from s (q.at + 1)) a.sign a.es) sign-is links);
            held = a.held;
            within = passed q.rows kids a.within;
            kinded = a.kinded;
            kidded = a.kidded;
            some = omega (arith, a.two);
          }

      -- another
      pub chain_other : ¬ (k ≡ kind) → q.rows < length work → Before s p (noded_rows work p.rows q kind kids) (past (noded q)) k 1
      chain_other h room =
          let t = made_join s p work q kind kids a.es a.held a.within a.kidded a.two room a.sign a.kinded in
          let not-sign : same a.sign sign_next.sign ≡ false = other_sign a.sign sign_next.sign (λ z. h (sign_next.kind ∙ sym z ∙ sym a.kinded)) in
          record {
            sign = sign_next.sign;
            es = join a.sign a.es ◂ none;
            goes = waits_other links not-sign;
            held = t.held;
            within = passed (q.rows + 1) 1 t.within;
            kinded = sign_next.kind;
            kidded = sym (many_one (join a.sign a.es));
            some = omega arith;
          }

    pub chain_ends : (old : List Row) → None ≡ op_ahead (from s q.at) → q.rows < length work → Front p.rows old work
        → ChainSays s p old (noded_rows work p.rows q kind kids) (Ok (noded q))
    chain_ends old z room f = (
      join a.sign a.es,
      chain_whole a.goes (stops_if (from s q.at) a.goes.ends z),
      made_join s p work q kind kids a.es a.held a.within a.kidded a.two room a.sign a.kinded,
      front_set p.rows work q.rows _ a.within.above ∙ f,
    )
