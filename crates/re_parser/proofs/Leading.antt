-- What leads on from a reader: one term more, a `|`, a `(` and a `)`.
use Rattle.std.proofs.Common.{◌≡◌, ℕ, Bool, true, false, List, [], ◌∷◌, ◌++◌, Option, Some, refl, sym, subst, ◌∙◌, append_assoc, inl, inr}
use Rattle.std.specs.Prelude.{◌⊎◌}
use Rattle.std.proofs.lemmas.List.{append-nil}
use Rattle.re_ast.specs.declared.patterns.Node.{Node}
use Rattle.re_parser.specs.Pieces.{piece_at}
use Rattle.re_parser.specs.Grammar.{Begins, seq_of, IsAlternative, alternative_none, alternative_more, IsTerm}
use Rattle.re_parser.specs.Reading.{Goes, Follows, Ends, Whole}
use Rattle.re_parser.specs.declared.kinds.Piece.{Piece}
use Rattle.re_parser.specs.declared.kinds.Piece.TheVariants as piece
use Rattle.re_parser.specs.declared.reader.Frame.{Frame}
use Rattle.re_parser.proofs.Members.{parts_same}

-- where a disjunction ends
abbrev pub End : Type 1
End = List Node → ℕ → List ℕ → Type 0

-- one piece stands in front
pub same_piece : (units : List ℕ) (p q : Piece) (rest more : List ℕ) → Begins units p rest → Begins units q more → (p ≡ q) × (rest ≡ more)
same_piece units p q rest more a b = parts_same Piece (List ℕ) (p, rest) (q, more) (sym a ∙ b)

-- ---- a term

pub goes_back : (total : Option ℕ) (depth : ℕ) (C : End) (done terms : List Node) (before : ℕ) (units : List ℕ) (term : Node) (mid : ℕ) (next : List ℕ) → IsTerm total depth before units term mid next → Goes total depth C done (terms ++ term ∷ []) mid next → Goes total depth C done terms before units
goes_back total depth C done terms before units term mid next t g = record {
  more = term ∷ g.more;
  mid = g.mid;
  stop = g.stop;
  alternative = alternative_more depth before units term mid next g.more g.mid g.stop t g.alternative;
  follows = subst (λ (q : List Node). Follows total depth C done (seq_of q) g.mid g.stop) (append_assoc terms (term ∷ []) g.more) g.follows;
}

-- the alternative goes on with a term
pub record Term (total : Option ℕ) (depth : ℕ) (C : End) (done terms : List Node) (before : ℕ) (units : List ℕ) : Type 0 where
  pub term : Node
  pub mid : ℕ
  pub next : List ℕ
  pub is : IsTerm total depth before units term mid next
  pub goes : Goes total depth C done (terms ++ term ∷ []) mid next

term_in : (total : Option ℕ) (depth before : ℕ) (units : List ℕ) (more : List Node) (mid : ℕ) (stop : List ℕ) → IsAlternative total depth before units more mid stop → (C : End) (done terms : List Node) → Follows total depth C done (seq_of (terms ++ more)) mid stop
    → Term total depth C done terms before units ⊎ ((more ≡ []) × Follows total depth C done (seq_of terms) before units)
term_in total _ _ _ _ _ _ (alternative_none depth before units) C done terms f = inr (refl, subst (λ (q : List Node). Follows total depth C done (seq_of q) before units) (append-nil terms) f)
term_in total _ _ _ _ _ _ (alternative_more depth before units term mid next more after rest t i) C done terms f = inl (record {
  term = term;
  mid = mid;
  next = next;
  is = t;
  goes = record {
    more = more;
    mid = after;
    stop = rest;
    alternative = i;
    follows = subst (λ (q : List Node). Follows total depth C done (seq_of q) after rest) (sym (append_assoc terms (term ∷ []) more)) f;
  };
})

-- a term, or what follows the alternative
pub goes_on : (total : Option ℕ) (depth : ℕ) (C : End) (done terms : List Node) (before : ℕ) (units : List ℕ) → Goes total depth C done terms before units → Term total depth C done terms before units ⊎ Follows total depth C done (seq_of terms) before units
goes_on total depth C done terms before units g =
    elim (term_in total depth before units g.more g.mid g.stop g.alternative C done terms g.follows) [ inl t ↦ inl t | inr f ↦ inr f.1 ]

-- ---- what stops an alternative

abbrev pub stops : Piece → Bool
stops piece.Bar = true
stops piece.Close = true
stops _ = false

pub ends_close : (w : Whole) (fs : List Frame) (nodes : List Node) (after : ℕ) (units : List ℕ) (p : Piece) (rest : List ℕ) → Ends w fs nodes after units → Begins units p rest → p ≡ piece.Close
unfolding piece_at
ends_close w [] nodes after units p rest e b = absurd (let none : piece_at [] ≡ Some (p, rest) = subst (λ (q : List ℕ). Begins q p rest) e.0 b in cc)
ends_close w (f ∷ fs) nodes after units p rest e b = (same_piece units p piece.Close rest e.0 b e.1).0

pub follows_stops : (w : Whole) (depth : ℕ) (fs : List Frame) (done : List Node) (seq : Node) (mid : ℕ) (units : List ℕ) (p : Piece) (rest : List ℕ) → Follows w.0 depth (Ends w fs) done seq mid units → Begins units p rest → stops p ≡ true
follows_stops w depth fs done seq mid units p rest f b =
    elim f [
      | inl e ↦ rw (ends_close w fs (done ++ seq ∷ []) mid units p rest e b) refl
      | inr m ↦ rw ((same_piece units p piece.Bar rest m.0 b m.4).0) refl
    ]
