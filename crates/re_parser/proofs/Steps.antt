-- A step of a reader: the same wholes are left behind it, or none was left before.
use Rattle.std.proofs.Common.{◌≡◌, ℕ, ◌+◌, suc, ◌<◌, Bool, true, false, List, [], ◌∷◌, ◌++◌, length, Option, Some, None, refl, sym, ap, subst, ◌∙◌, append_assoc, inl, inr}
use Rattle.std.specs.Prelude.{◌&&◌}
use Rattle.std.proofs.lemmas.List.{append-nil}
use Rattle.std.proofs.lemmas.Bool.{and_parts}
use Rattle.re_ast.specs.declared.patterns.Node.{Node}
use Rattle.re_ast.specs.declared.patterns.Node.TheVariants as node
use Rattle.re_parser.specs.Classes.{IsMembers, NoMembers}
use Rattle.re_parser.specs.Pieces.{piece_at}
use Rattle.re_parser.specs.Grammar.{Begins, seq_of, alt_of, assertion_node, atom_node, is_bound, is_within, quantified, closed, begun, IsDisjunction, disjunction_last, disjunction_more, alternative_none, IsTerm, term_assertion, term_atom, term_class, term_group}
use Rattle.re_parser.specs.Reading.{Goes, Follows, Ends, Left, Whole, Same, Stuck, closed_in, outer, with_term, with_bar, with_back, with_atom, with_class, are_bound}
use Rattle.re_parser.specs.declared.kinds.GroupKind.{GroupKind}
use Rattle.re_parser.specs.declared.kinds.Atom.{Atom}
use Rattle.re_parser.specs.declared.kinds.Atom.TheVariants as atom
use Rattle.re_parser.specs.declared.kinds.Assertion.{Assertion}
use Rattle.re_parser.specs.declared.kinds.Piece.{Piece}
use Rattle.re_parser.specs.declared.kinds.Piece.TheVariants as piece
use Rattle.re_parser.specs.declared.reader.Frame.{Frame}
use Rattle.re_parser.specs.declared.reader.Reader.{Reader}
use Rattle.re_parser.specs.declared.reader.Backreference.{Backreference}
use Rattle.re_parser.proofs.Leading.{End, same_piece, goes_back, Term, goes_on, stops, ends_close, follows_stops}
use Rattle.re_parser.proofs.Members.{members_same}

-- ---- what a term begins with

pub term_begins : (total : Option ℕ) (depth before : ℕ) (units : List ℕ) (n : Node) (mid : ℕ) (next : List ℕ) → IsTerm total depth before units n mid next → (p : Piece) × (rest : List ℕ) × Begins units p rest × (stops p ≡ false)
term_begins total _ _ _ _ _ _ (term_assertion depth before units a rest b) = (piece.Assertion a, rest, b, refl)
term_begins total _ _ _ _ _ _ (term_atom depth before units a mid b h) = (piece.Atom a, mid, b, refl)
term_begins total _ _ _ _ _ _ (term_class depth before units negated inside ranges mid b h) = (piece.Class negated, inside, b, refl)
term_begins total _ _ _ _ _ _ (term_group depth before units kind inside within nodes after close mid b lt g d c) = (piece.Open kind, inside, b, refl)

term_goes : (total : Option ℕ) (depth before : ℕ) (units : List ℕ) (n : Node) (mid : ℕ) (next : List ℕ) (p : Piece) (rest : List ℕ) → IsTerm total depth before units n mid next → Begins units p rest → stops p ≡ true → ⊥
term_goes total depth before units n mid next p rest t b s =
    let f = term_begins total depth before units n mid next t in
    let same = ap stops (same_piece units f.0 p f.1 rest f.2 b).0 in
    let never = f.3 in
    absurd cc

-- the parts of a term, by its first piece
assertion_in : (total : Option ℕ) (depth before : ℕ) (units : List ℕ) (n : Node) (mid : ℕ) (next : List ℕ) → IsTerm total depth before units n mid next → (a : Assertion) (rest : List ℕ) → Begins units (piece.Assertion a) rest → (P : Node → ℕ → List ℕ → Type 0) → P n mid next → P (assertion_node a) before rest
assertion_in total _ _ _ _ _ _ (term_assertion depth before units a rest b) c more d P p =
    let s = same_piece units (piece.Assertion a) (piece.Assertion c) rest more b d in
    let same : a ≡ c = let e = s.0 in cc in
    subst (λ (x : Assertion). P (assertion_node x) before more) same (subst (λ (x : List ℕ). P (assertion_node a) before x) s.1 p)
assertion_in total _ _ _ _ _ _ (term_atom depth before units a mid b h) c more d P p = absurd (let e = (same_piece units (piece.Atom a) (piece.Assertion c) mid more b d).0 in cc)
assertion_in total _ _ _ _ _ _ (term_class depth before units negated inside ranges mid b h) c more d P p = absurd (let e = (same_piece units (piece.Class negated) (piece.Assertion c) inside more b d).0 in cc)
assertion_in total _ _ _ _ _ _ (term_group depth before units kind inside within nodes after close mid b lt g h i) c more d P p = absurd (let e = (same_piece units (piece.Open kind) (piece.Assertion c) inside more b d).0 in cc)

atom_in : (total : Option ℕ) (depth before : ℕ) (units : List ℕ) (n : Node) (mid : ℕ) (next : List ℕ) → IsTerm total depth before units n mid next → (a : Atom) (rest : List ℕ) → Begins units (piece.Atom a) rest → (P : Node → ℕ → List ℕ → Type 0) → P n mid next
    → (is_bound total a ≡ true) × P (quantified (before + 1) (atom_node a) (before + 1) rest).0 before (quantified (before + 1) (atom_node a) (before + 1) rest).1
atom_in total _ _ _ _ _ _ (term_assertion depth before units a rest b) c more d P p = absurd (let e = (same_piece units (piece.Assertion a) (piece.Atom c) rest more b d).0 in cc)
atom_in total _ _ _ _ _ _ (term_atom depth before units a mid b h) c more d P p =
    let s = same_piece units (piece.Atom a) (piece.Atom c) mid more b d in
    let same : a ≡ c = let e = s.0 in cc in
    let there : P (quantified (before + 1) (atom_node a) (before + 1) more).0 before (quantified (before + 1) (atom_node a) (before + 1) more).1 = subst (λ (x : List ℕ). P (quantified (before + 1) (atom_node a) (before + 1) x).0 before (quantified (before + 1) (atom_node a) (before + 1) x).1) s.1 p in
    (subst (λ (x : Atom). is_bound total x ≡ true) same h, subst (λ (x : Atom). P (quantified (before + 1) (atom_node x) (before + 1) more).0 before (quantified (before + 1) (atom_node x) (before + 1) more).1) same there)
atom_in total _ _ _ _ _ _ (term_class depth before units negated inside ranges mid b h) c more d P p = absurd (let e = (same_piece units (piece.Class negated) (piece.Atom c) inside more b d).0 in cc)
atom_in total _ _ _ _ _ _ (term_group depth before units kind inside within nodes after close mid b lt g h i) c more d P p = absurd (let e = (same_piece units (piece.Open kind) (piece.Atom c) inside more b d).0 in cc)

abbrev pub class_node : Bool → List (ℕ × ℕ) → Node
class_node negated ranges = node.Class (record { ranges = ranges; negated = negated })

pub class_in : (total : Option ℕ) (depth before : ℕ) (units : List ℕ) (n : Node) (mid : ℕ) (next : List ℕ) → IsTerm total depth before units n mid next → (negated : Bool) (inside : List ℕ) → Begins units (piece.Class negated) inside → (P : Node → ℕ → List ℕ → Type 0) → P n mid next
    → (ranges : List (ℕ × ℕ)) × (rest : List ℕ) × IsMembers inside ranges rest × P (quantified (before + 1) (class_node negated ranges) (before + 1) rest).0 before (quantified (before + 1) (class_node negated ranges) (before + 1) rest).1
class_in total _ _ _ _ _ _ (term_assertion depth before units a rest b) c more d P p = absurd (let e = (same_piece units (piece.Assertion a) (piece.Class c) rest more b d).0 in cc)
class_in total _ _ _ _ _ _ (term_atom depth before units a mid b h) c more d P p = absurd (let e = (same_piece units (piece.Atom a) (piece.Class c) mid more b d).0 in cc)
class_in total _ _ _ _ _ _ (term_class depth before units negated inside ranges mid b h) c more d P p =
    let s = same_piece units (piece.Class negated) (piece.Class c) inside more b d in
    let same : negated ≡ c = let e = s.0 in cc in
    (ranges, mid, subst (λ (x : List ℕ). IsMembers x ranges mid) s.1 h, subst (λ (x : Bool). P (quantified (before + 1) (class_node x ranges) (before + 1) mid).0 before (quantified (before + 1) (class_node x ranges) (before + 1) mid).1) same p)
class_in total _ _ _ _ _ _ (term_group depth before units kind inside within nodes after close mid b lt g h i) c more d P p = absurd (let e = (same_piece units (piece.Open kind) (piece.Class c) inside more b d).0 in cc)

record Group (total : Option ℕ) (depth before : ℕ) (kind : GroupKind) (inside : List ℕ) (P : Node → ℕ → List ℕ → Type 0) : Type 0 where
  within : ℕ
  nodes : List Node
  after : ℕ
  close : List ℕ
  rest : List ℕ
  shallow : depth < 100
  begins : begun kind before ≡ Some within
  disjunction : IsDisjunction total (suc depth) within inside nodes after close
  closes : Begins close piece.Close rest
  is : P (closed kind (before + 1) (alt_of nodes) (after + 1) rest).0 after (closed kind (before + 1) (alt_of nodes) (after + 1) rest).1

group_in : (total : Option ℕ) (depth before : ℕ) (units : List ℕ) (n : Node) (mid : ℕ) (next : List ℕ) → IsTerm total depth before units n mid next → (kind : GroupKind) (inside : List ℕ) → Begins units (piece.Open kind) inside → (P : Node → ℕ → List ℕ → Type 0) → P n mid next → Group total depth before kind inside P
group_in total _ _ _ _ _ _ (term_assertion depth before units a rest b) c more d P p = absurd (let e = (same_piece units (piece.Assertion a) (piece.Open c) rest more b d).0 in cc)
group_in total _ _ _ _ _ _ (term_atom depth before units a mid b h) c more d P p = absurd (let e = (same_piece units (piece.Atom a) (piece.Open c) mid more b d).0 in cc)
group_in total _ _ _ _ _ _ (term_class depth before units negated inside ranges mid b h) c more d P p = absurd (let e = (same_piece units (piece.Class negated) (piece.Open c) inside more b d).0 in cc)
group_in total _ _ _ _ _ _ (term_group depth before units kind inside within nodes after close mid b lt g h i) c more d P p =
    let s = same_piece units (piece.Open kind) (piece.Open c) inside more b d in
    let same : kind ≡ c = let e = s.0 in cc in
    record {
      within = within;
      nodes = nodes;
      after = after;
      close = close;
      rest = mid;
      shallow = lt;
      begins = ap (λ (x : GroupKind). begun x before) (sym same) ∙ g;
      disjunction = subst (λ (x : List ℕ). IsDisjunction total (suc depth) within x nodes after close) s.1 h;
      closes = i;
      is = subst (λ (x : GroupKind). P (closed x (before + 1) (alt_of nodes) (after + 1) mid).0 after (closed x (before + 1) (alt_of nodes) (after + 1) mid).1) same p;
    }

-- ---- terms

abbrev frames_end : Whole → List Frame → End
frames_end w fs = Ends w fs

-- the alternative goes on with a term, where a piece of one is in front
pub goes_term : (w : Whole) (depth : ℕ) (fs : List Frame) (done terms : List Node) (before : ℕ) (units : List ℕ) (p : Piece) (rest : List ℕ) → Goes w.0 depth (Ends w fs) done terms before units → Begins units p rest → stops p ≡ false → Term w.0 depth (Ends w fs) done terms before units
goes_term w depth fs done terms before units p rest g b s =
    elim (goes_on w.0 depth (Ends w fs) done terms before units g) [
      | inl t ↦ t
      | inr f ↦ absurd (let e = follows_stops w depth fs done (seq_of terms) before units p rest f b in cc)
    ]

-- the alternative ends, where `|` or `)` is in front
goes_stop : (w : Whole) (depth : ℕ) (fs : List Frame) (done terms : List Node) (before : ℕ) (units : List ℕ) (p : Piece) (rest : List ℕ) → Goes w.0 depth (Ends w fs) done terms before units → Begins units p rest → stops p ≡ true → Follows w.0 depth (Ends w fs) done (seq_of terms) before units
goes_stop w depth fs done terms before units p rest g b s =
    elim (goes_on w.0 depth (Ends w fs) done terms before units g) [
      | inl t ↦ absurd (term_goes w.0 depth before units t.term t.mid t.next p rest t.is b s)
      | inr f ↦ f
    ]

-- a backreference in front is within the limit
pub back_bound : (w : Whole) (r : Reader) (units : List ℕ) (n : ℕ) (rest : List ℕ) → Begins units (piece.Atom (atom.Back n)) rest → Left w r units → is_within w.0 n ≡ true
back_bound w r units n rest b l =
    let t = goes_term w (length r.frames) r.frames r.alternatives r.terms r.groups units (piece.Atom (atom.Back n)) rest l.1 b refl in
    (atom_in w.0 (length r.frames) r.groups units t.term t.mid t.next t.is (atom.Back n) rest b (λ n mid next. Unit {0}) tt).0

-- nothing more of an alternative
pub goes_none : (total : Option ℕ) (depth : ℕ) (C : End) (done terms : List Node) (before : ℕ) (units : List ℕ) → Follows total depth C done (seq_of terms) before units → Goes total depth C done terms before units
goes_none total depth C done terms before units f = record {
  more = [];
  mid = before;
  stop = units;
  alternative = alternative_none depth before units;
  follows = subst (λ (q : List Node). Follows total depth C done (seq_of q) before units) (sym (append-nil terms)) f;
}

-- ---- disjunctions

resume : (total : Option ℕ) (depth before : ℕ) (units : List ℕ) (nodes : List Node) (after : ℕ) (rest : List ℕ) → IsDisjunction total depth before units nodes after rest → (C : End) (done : List Node) → C (done ++ nodes) after rest → Goes total depth C done [] before units
resume total _ _ _ _ _ _ (disjunction_last depth before units terms after rest i) C done c = record { more = terms; mid = after; stop = rest; alternative = i; follows = inl c }
resume total _ _ _ _ _ _ (disjunction_more depth before units terms mid bar next nodes after rest i b d) C done c = record { more = terms; mid = mid; stop = bar; alternative = i; follows = inr (next, nodes, after, rest, b, d, c) }

pub record Resumed (total : Option ℕ) (depth : ℕ) (C : End) (done : List Node) (before : ℕ) (units : List ℕ) : Type 0 where
  pub nodes : List Node
  pub after : ℕ
  pub rest : List ℕ
  pub disjunction : IsDisjunction total depth before units nodes after rest
  pub ends : C (done ++ nodes) after rest

pub resumed : (total : Option ℕ) (depth : ℕ) (C : End) (done : List Node) (before : ℕ) (units : List ℕ) → Goes total depth C done [] before units → Resumed total depth C done before units
resumed total depth C done before units g =
    elim g.follows [
      | inl c ↦ record { nodes = seq_of g.more ∷ []; after = g.mid; rest = g.stop; disjunction = disjunction_last depth before units g.more g.mid g.stop g.alternative; ends = c }
      | inr m ↦ record { nodes = seq_of g.more ∷ m.1; after = m.2; rest = m.3; disjunction = disjunction_more depth before units g.more g.mid g.stop m.0 m.1 m.2 m.3 g.alternative m.4 m.5; ends = m.6 }
    ]

pub disjunction_goes : (total : Option ℕ) (depth before : ℕ) (units : List ℕ) (nodes : List Node) (after : ℕ) (rest : List ℕ) → IsDisjunction total depth before units nodes after rest → (C : End) (done : List Node) → C (done ++ nodes) after rest → Goes total depth C done [] before units
disjunction_goes = resume

-- ---- each piece

pub bar_same : (r : Reader) (units rest : List ℕ) → Begins units piece.Bar rest → Same r units (with_bar r) rest
bar_same r units rest b w = (forth, back)
  where
    forth : Left w r units → Left w (with_bar r) rest
    forth l = (
      l.0,
      elim (goes_stop w (length r.frames) r.frames r.alternatives r.terms r.groups units piece.Bar rest l.1 b refl) [
        | inl e ↦ absurd (let c = ends_close w r.frames (r.alternatives ++ seq_of r.terms ∷ []) r.groups units piece.Bar rest e b in cc)
        | inr m ↦ resume w.0 (length r.frames) r.groups rest m.1 m.2 m.3
            (subst (λ (x : List ℕ). IsDisjunction w.0 (length r.frames) r.groups x m.1 m.2 m.3) (same_piece units piece.Bar piece.Bar m.0 rest m.4 b).1 m.5)
            (Ends w r.frames) (r.alternatives ++ seq_of r.terms ∷ [])
            (subst (λ (x : List Node). Ends w r.frames x m.2 m.3) (sym (append_assoc r.alternatives (seq_of r.terms ∷ []) m.1)) m.6)
      ],
    )

    back : Left w (with_bar r) rest → Left w r units
    back l =
        let d = resumed w.0 (length r.frames) (Ends w r.frames) (r.alternatives ++ seq_of r.terms ∷ []) r.groups rest l.1 in (
          l.0,
          goes_none w.0 (length r.frames) (Ends w r.frames) r.alternatives r.terms r.groups units
              (inr (rest, d.nodes, d.after, d.rest, b, d.disjunction, subst (λ (x : List Node). Ends w r.frames x d.after d.rest) (append_assoc r.alternatives (seq_of r.terms ∷ []) d.nodes) d.ends)),
        )

pub assertion_same : (r : Reader) (units rest : List ℕ) (a : Assertion) → Begins units (piece.Assertion a) rest → Same r units (with_term r (assertion_node a, rest)).0 rest
assertion_same r units rest a b w = (forth, back)
  where
    forth : Left w r units → Left w (with_term r (assertion_node a, rest)).0 rest
    forth l =
        let t = goes_term w (length r.frames) r.frames r.alternatives r.terms r.groups units (piece.Assertion a) rest l.1 b refl in
        (l.0, assertion_in w.0 (length r.frames) r.groups units t.term t.mid t.next t.is a rest b (λ n mid next. Goes w.0 (length r.frames) (Ends w r.frames) r.alternatives (r.terms ++ n ∷ []) mid next) t.goes)

    back : Left w (with_term r (assertion_node a, rest)).0 rest → Left w r units
    back l = (l.0, goes_back w.0 (length r.frames) (Ends w r.frames) r.alternatives r.terms r.groups units (assertion_node a) r.groups rest (term_assertion (length r.frames) r.groups units a rest b) l.1)

-- ---- backreferences

pub bound_more : (total : Option ℕ) (backs : List Backreference) (b : Backreference) → are_bound total (backs ++ b ∷ []) ≡ (are_bound total backs && is_within total b.number)
bound_more total [] b = and_true (is_within total b.number)
  where
    and_true : (x : Bool) → (x && true) ≡ (true && x)
    and_true true = refl
    and_true false = refl
bound_more total (c ∷ backs) b = ap (λ x. is_within total c.number && x) (bound_more total backs b) ∙ and_assoc (is_within total c.number) (are_bound total backs) (is_within total b.number)
  where
    and_assoc : (x y z : Bool) → (x && (y && z)) ≡ ((x && y) && z)
    and_assoc true y z = refl
    and_assoc false y z = refl

both : (x y : Bool) → x ≡ true → y ≡ true → (x && y) ≡ true
both true true e f = refl
both false y e f = absurd cc
both true false e f = absurd cc

bound_forth : (total : Option ℕ) (r : Reader) (a : Atom) (left : ℕ) → are_bound total r.backs ≡ true → is_bound total a ≡ true → are_bound total (with_back r a left).backs ≡ true
bound_forth total r (atom.Back n) left e f = bound_more total r.backs (record { number = n; left = left }) ∙ both (are_bound total r.backs) (is_within total n) e f
bound_forth total r _ left e f = e

bound_back : (total : Option ℕ) (r : Reader) (a : Atom) (left : ℕ) → are_bound total (with_back r a left).backs ≡ true → (are_bound total r.backs ≡ true) × (is_bound total a ≡ true)
bound_back total r (atom.Back n) left e = and_parts (are_bound total r.backs) (is_within total n) (sym (bound_more total r.backs (record { number = n; left = left })) ∙ e)
bound_back total r _ left e = (e, refl)

-- a backreference changes nothing else
goes_with : (w : Whole) (r : Reader) (a : Atom) (left : ℕ) (x : Node × List ℕ) → (with_term (with_back r a left) x).0 ≡ record (with_term r x).0 { backs = (with_back r a left).backs }
goes_with w r (atom.Back n) left x = refl
goes_with w r _ left x = refl

abbrev atom_term : Reader → Atom → List ℕ → Node × List ℕ
atom_term r a rest = quantified (r.groups + 1) (atom_node a) (r.groups + 1) rest

abbrev atom_reader : Reader → Atom → List ℕ → List ℕ → Reader
atom_reader r a units rest = record (with_term r (atom_term r a rest)).0 { backs = (with_back r a (length units)).backs }

pub atom_same : (r : Reader) (units rest : List ℕ) (a : Atom) → Begins units (piece.Atom a) rest → Same r units (with_atom r a units rest).0 (with_atom r a units rest).1
atom_same r units rest a b w = (forth, back)
  where
    forth : Left w r units → Left w (with_atom r a units rest).0 (with_atom r a units rest).1
    forth l =
        let t = goes_term w (length r.frames) r.frames r.alternatives r.terms r.groups units (piece.Atom a) rest l.1 b refl in
        let i = atom_in w.0 (length r.frames) r.groups units t.term t.mid t.next t.is a rest b (λ n mid next. Goes w.0 (length r.frames) (Ends w r.frames) r.alternatives (r.terms ++ n ∷ []) mid next) t.goes in
        subst (λ (q : Reader). Left w q (atom_term r a rest).1) (sym (goes_with w r a (length units) (atom_term r a rest))) (bound_forth w.0 r a (length units) l.0 i.0, i.1)

    back : Left w (with_atom r a units rest).0 (with_atom r a units rest).1 → Left w r units
    back l =
        let m : Left w (atom_reader r a units rest) (atom_term r a rest).1 = subst (λ (q : Reader). Left w q (atom_term r a rest).1) (goes_with w r a (length units) (atom_term r a rest)) l in
        let i = bound_back w.0 r a (length units) m.0 in
        (i.0, goes_back w.0 (length r.frames) (Ends w r.frames) r.alternatives r.terms r.groups units (atom_term r a rest).0 r.groups (atom_term r a rest).1 (term_atom (length r.frames) r.groups units a rest b i.1) m.1)

-- ---- classes

pub class_same : (r : Reader) (units inside : List ℕ) (negated : Bool) (ranges : List (ℕ × ℕ)) (mid : List ℕ) → Begins units (piece.Class negated) inside → IsMembers inside ranges mid → Same r units (with_class r negated ranges mid).0 (with_class r negated ranges mid).1
class_same r units inside negated ranges mid b h w = (forth, back)
  where
    forth : Left w r units → Left w (with_class r negated ranges mid).0 (with_class r negated ranges mid).1
    forth l =
        let t = goes_term w (length r.frames) r.frames r.alternatives r.terms r.groups units (piece.Class negated) inside l.1 b refl in
        let P : Node → ℕ → List ℕ → Type 0 = λ n mid next. Goes w.0 (length r.frames) (Ends w r.frames) r.alternatives (r.terms ++ n ∷ []) mid next in
        let i = class_in w.0 (length r.frames) r.groups units t.term t.mid t.next t.is negated inside b P t.goes in
        let s = members_same inside i.0 i.1 i.2 ranges mid h in (
          l.0,
          subst (λ (x : List ℕ). P (quantified (r.groups + 1) (class_node negated ranges) (r.groups + 1) x).0 r.groups (quantified (r.groups + 1) (class_node negated ranges) (r.groups + 1) x).1) s.1
              (subst (λ (x : List (ℕ × ℕ)). P (quantified (r.groups + 1) (class_node negated x) (r.groups + 1) i.1).0 r.groups (quantified (r.groups + 1) (class_node negated x) (r.groups + 1) i.1).1) s.0 i.3),
        )

    back : Left w (with_class r negated ranges mid).0 (with_class r negated ranges mid).1 → Left w r units
    back l = (l.0, goes_back w.0 (length r.frames) (Ends w r.frames) r.alternatives r.terms r.groups units _ r.groups _ (term_class (length r.frames) r.groups units negated inside ranges mid b h) l.1)

pub class_stuck : (r : Reader) (units inside : List ℕ) (negated : Bool) → Begins units (piece.Class negated) inside → NoMembers inside → Stuck r units
class_stuck r units inside negated b never w l =
    let t = goes_term w (length r.frames) r.frames r.alternatives r.terms r.groups units (piece.Class negated) inside l.1 b refl in
    let i = class_in w.0 (length r.frames) r.groups units t.term t.mid t.next t.is negated inside b (λ n mid next. Unit {0}) tt in
    never i.0 i.1 i.2

-- ---- groups

abbrev pub framed : Reader → GroupKind → Frame
framed r kind = record { kind = kind; before = r.groups; alternatives = r.alternatives; terms = r.terms }

abbrev pub inner : Reader → GroupKind → ℕ → Reader
inner r kind within = record { frames = framed r kind ∷ r.frames; alternatives = []; terms = []; groups = within; backs = r.backs }

pub open_same : (r : Reader) (units rest : List ℕ) (kind : GroupKind) (within : ℕ) → Begins units (piece.Open kind) rest → length r.frames < 100 → begun kind r.groups ≡ Some within → Same r units (inner r kind within) rest
open_same r units rest kind within b lt g w = (forth, back)
  where
    forth : Left w r units → Left w (inner r kind within) rest
    forth l =
        let t = goes_term w (length r.frames) r.frames r.alternatives r.terms r.groups units (piece.Open kind) rest l.1 b refl in
        let i = group_in w.0 (length r.frames) r.groups units t.term t.mid t.next t.is kind rest b (λ n mid next. Goes w.0 (length r.frames) (Ends w r.frames) r.alternatives (r.terms ++ n ∷ []) mid next) t.goes in
        let same : i.within ≡ within = let e : Some i.within ≡ Some within = sym i.begins ∙ g in cc in
        (l.0, resume w.0 (suc (length r.frames)) within rest i.nodes i.after i.close (subst (λ (x : ℕ). IsDisjunction w.0 (suc (length r.frames)) x rest i.nodes i.after i.close) same i.disjunction) (Ends w (framed r kind ∷ r.frames)) [] (i.rest, i.closes, i.is))

    back : Left w (inner r kind within) rest → Left w r units
    back l =
        let d = resumed w.0 (suc (length r.frames)) (Ends w (framed r kind ∷ r.frames)) [] within rest l.1 in
        (l.0, goes_back w.0 (length r.frames) (Ends w r.frames) r.alternatives r.terms r.groups units _ d.after _ (term_group (length r.frames) r.groups units kind rest within d.nodes d.after d.rest d.ends.0 b lt g d.disjunction d.ends.1) d.ends.2)

pub open_stuck : (r : Reader) (units rest : List ℕ) (kind : GroupKind) → Begins units (piece.Open kind) rest → (length r.frames < 100 → (within : ℕ) → begun kind r.groups ≡ Some within → ⊥) → Stuck r units
open_stuck r units rest kind b never w l =
    let t = goes_term w (length r.frames) r.frames r.alternatives r.terms r.groups units (piece.Open kind) rest l.1 b refl in
    let i = group_in w.0 (length r.frames) r.groups units t.term t.mid t.next t.is kind rest b (λ n mid next. Unit {0}) tt in
    never i.shallow i.within i.begins

abbrev pub around : Reader → Frame → List Frame → Reader
around r f fs = record { frames = f ∷ fs; alternatives = r.alternatives; terms = r.terms; groups = r.groups; backs = r.backs }

abbrev pub all_of : Reader → List Node
all_of r = r.alternatives ++ seq_of r.terms ∷ []

pub close_same : (r : Reader) (f : Frame) (fs : List Frame) (units rest : List ℕ) → Begins units piece.Close rest → Same (around r f fs) units (with_term (outer r f fs) (closed_in f (all_of r) r.groups rest)).0 (closed_in f (all_of r) r.groups rest).1
close_same r f fs units rest b w = (forth, back)
  where
    forth : Left w (around r f fs) units → Left w (with_term (outer r f fs) (closed_in f (all_of r) r.groups rest)).0 (closed_in f (all_of r) r.groups rest).1
    forth l = (
      l.0,
      elim (goes_stop w (length (f ∷ fs)) (f ∷ fs) r.alternatives r.terms r.groups units piece.Close rest l.1 b refl) [
        | inl e ↦ subst (λ (x : List ℕ). Goes w.0 (length fs) (Ends w fs) f.alternatives (f.terms ++ (closed_in f (all_of r) r.groups x).0 ∷ []) r.groups (closed_in f (all_of r) r.groups x).1) (same_piece units piece.Close piece.Close e.0 rest e.1 b).1 e.2
        | inr m ↦ absurd (let c = (same_piece units piece.Bar piece.Close m.0 rest m.4 b).0 in cc)
      ],
    )

    back : Left w (with_term (outer r f fs) (closed_in f (all_of r) r.groups rest)).0 (closed_in f (all_of r) r.groups rest).1 → Left w (around r f fs) units
    back l = (l.0, goes_none w.0 (length (f ∷ fs)) (Ends w (f ∷ fs)) r.alternatives r.terms r.groups units (inl (rest, b, l.1)))

abbrev pub outside : Reader → Reader
outside r = record { frames = []; alternatives = r.alternatives; terms = r.terms; groups = r.groups; backs = r.backs }

pub close_stuck : (r : Reader) (units rest : List ℕ) → Begins units piece.Close rest → Stuck (outside r) units
unfolding piece_at
close_stuck r units rest b w l =
    elim (goes_stop w 0 [] r.alternatives r.terms r.groups units piece.Close rest l.1 b refl) [
      | inl e ↦ absurd (let none : piece_at [] ≡ Some (piece.Close, rest) = subst (λ (q : List ℕ). Begins q piece.Close rest) e.0 b in cc)
      | inr m ↦ absurd (let c = (same_piece units piece.Bar piece.Close m.0 rest m.4 b).0 in cc)
    ]

-- no piece is in front, and yet there are units
pub piece_stuck : (r : Reader) (u : ℕ) (us : List ℕ) → piece_at (u ∷ us) ≡ None → Stuck r (u ∷ us)
piece_stuck r u us none w l =
    elim (goes_on w.0 (length r.frames) (Ends w r.frames) r.alternatives r.terms r.groups (u ∷ us) l.1) [
      | inl t ↦ (let f = term_begins w.0 (length r.frames) r.groups (u ∷ us) t.term t.mid t.next t.is in let some = f.2 in absurd cc)
      | inr (inl e) ↦ ends_on r.frames e
      | inr (inr m) ↦ absurd (let some = m.4 in cc)
    ]
  where
    ends_on : (fs : List Frame) → Ends w fs (r.alternatives ++ seq_of r.terms ∷ []) r.groups (u ∷ us) → ⊥
    ends_on [] e = absurd (let never = e.0 in cc)
    ends_on (f ∷ fs) e = absurd (let some = e.1 in cc)
