-- With which unit a piece begins.
use Rattle.std.proofs.Common.{◌≡◌, ℕ, Bool, true, false, cond, List, [], ◌∷◌, Option, Some, None, refl, sym, ap, subst, ◌∙◌}
use Rattle.std.specs.Prelude.{◌==◌, ◌&&◌, ◌||◌, nat_le}
use Rattle.std.proofs.lemmas.Bool.{eqb-true}
use Rattle.re_parser.specs.Agreement.{is_question}
use Rattle.re_parser.specs.Escapes.{starts, class_escape_of, character_at}
use Rattle.re_parser.specs.Quantifiers.{digits_from, braces_at}
use Rattle.re_parser.specs.Pieces.{marked_group_at, group_at, class_at, character_piece, class_escape_or, back_piece, escape_at, brace_piece, plain_at, piece_at}
use Rattle.re_parser.specs.Places.{is_mark}
use Rattle.re_parser.specs.declared.kinds.Braces.{Braces}
use Rattle.re_parser.specs.declared.kinds.ClassEscape.{ClassEscape}
use Rattle.re_parser.specs.declared.kinds.Assertion.TheVariants as assertion
use Rattle.re_parser.specs.declared.kinds.GroupKind.TheVariants as group
use Rattle.re_parser.specs.declared.kinds.Atom.TheVariants as atom
use Rattle.re_parser.specs.declared.kinds.Piece.{Piece}
use Rattle.re_parser.specs.declared.kinds.Piece.TheVariants as piece
use Rattle.re_parser.proofs.Members.{parts_same}

-- each piece that is read passes
abbrev Sure : (Piece → Bool) → (List ℕ → Option (Piece × List ℕ)) → Type 0
Sure test F = (us : List ℕ) (p : Piece) (rest : List ℕ) → F us ≡ Some (p, rest) → test p ≡ true

sure_none : (test : Piece → Bool) → Sure test (λ (us : List ℕ). None)
sure_none test us p rest e = absurd cc

sure_some : (test : Piece → Bool) (q : Piece) → test q ≡ true → Sure test (λ (us : List ℕ). Some (q, us))
sure_some test q h us p rest e = subst (λ (x : Piece). test x ≡ true) (parts_same Piece (List ℕ) (q, us) (p, rest) e).0 h

sure_when : (test : Piece → Bool) (c : Bool) (F G : List ℕ → Option (Piece × List ℕ)) → (c ≡ true → Sure test F) → Sure test G → Sure test (λ (us : List ℕ). cond c (F us) (G us))
sure_when test true F G f g = f refl
sure_when test false F G f g = g

-- ---- behind `(`

abbrev pub is_open : Piece → Bool
is_open (piece.Open kind) = true
is_open _ = false

-- a group that doesn't capture
abbrev pub is_marked : Piece → Bool
is_marked (piece.Open group.Capturing) = false
is_marked (piece.Open _) = true
is_marked _ = false

pub marked_is : Sure is_marked marked_group_at
marked_is [] p rest e = absurd cc
marked_is (u ∷ us) p rest e =
    sure_when is_marked (u == 58) (λ (us : List ℕ). Some (piece.Open group.Plain, us)) (λ (us : List ℕ). cond (u == 61) (Some (piece.Open group.Ahead, us)) (cond (u == 33) (Some (piece.Open group.NotAhead, us)) None)) (λ d. sure_some is_marked (piece.Open group.Plain) refl)
    (sure_when is_marked (u == 61) (λ (us : List ℕ). Some (piece.Open group.Ahead, us)) (λ (us : List ℕ). cond (u == 33) (Some (piece.Open group.NotAhead, us)) None) (λ d. sure_some is_marked (piece.Open group.Ahead) refl)
    (sure_when is_marked (u == 33) (λ (us : List ℕ). Some (piece.Open group.NotAhead, us)) (λ (us : List ℕ). None) (λ d. sure_some is_marked (piece.Open group.NotAhead) refl) (sure_none is_marked)))
    us p rest e

marked_open : (p : Piece) → is_marked p ≡ true → is_open p ≡ true
marked_open (piece.Open kind) e = refl
marked_open _ e = absurd cc

pub group_open : Sure is_open group_at
unfolding group_at
group_open [] p rest e = subst (λ (x : Piece). is_open x ≡ true) (parts_same Piece (List ℕ) (piece.Open group.Capturing, []) (p, rest) e).0 refl
group_open (u ∷ us) p rest e = by (u == 63) refl e
  where
    by : (c : Bool) → (u == 63) ≡ c → cond {A = Option (Piece × List ℕ)} c (marked_group_at us) (Some (piece.Open group.Capturing, u ∷ us)) ≡ Some (p, rest) → is_open p ≡ true
    by true d e = marked_open p (marked_is us p rest e)
    by false d e = subst (λ (x : Piece). is_open x ≡ true) (parts_same Piece (List ℕ) (piece.Open group.Capturing, u ∷ us) (p, rest) e).0 refl

pub captures : (us : List ℕ) → starts is_question us ≡ false → group_at us ≡ Some (piece.Open group.Capturing, us)
unfolding group_at
captures [] e = refl
captures (u ∷ us) e = rw e refl

-- a mark other than `:`, `=` and `!` begins no group
pub no_mark : (u : ℕ) (us : List ℕ) → is_mark u ≡ false → marked_group_at (u ∷ us) ≡ None
no_mark u us e = by (u == 58) (u == 61) (u == 33) e
  where
    by : (a b c : Bool) → (a || b || c) ≡ false → cond {A = Option (Piece × List ℕ)} a (Some (piece.Open group.Plain, us)) (cond b (Some (piece.Open group.Ahead, us)) (cond c (Some (piece.Open group.NotAhead, us)) None)) ≡ None
    by true b c e = absurd cc
    by false true c e = absurd cc
    by false false true e = absurd cc
    by false false false e = refl

pub mark_none : (u : ℕ) (us vs : List ℕ) → marked_group_at (u ∷ us) ≡ None → marked_group_at (u ∷ vs) ≡ None
mark_none u us vs e = no_mark u vs (by (u == 58) (u == 61) (u == 33) e)
  where
    by : (a b c : Bool) → cond {A = Option (Piece × List ℕ)} a (Some (piece.Open group.Plain, us)) (cond b (Some (piece.Open group.Ahead, us)) (cond c (Some (piece.Open group.NotAhead, us)) None)) ≡ None → (a || b || c) ≡ false
    by true b c e = absurd cc
    by false true c e = absurd cc
    by false false true e = absurd cc
    by false false false e = refl

-- ---- all pieces

-- a piece that begins with no unit but this one
abbrev pub begins_with : ℕ → Piece → Bool
begins_with u (piece.Open kind) = u == 40
begins_with u piece.Close = u == 41
begins_with u (piece.Class negated) = u == 91
begins_with u (piece.Atom (atom.Back n)) = u == 92
begins_with u _ = true

-- an assertion or an atom
abbrev is_term : Piece → Bool
is_term (piece.Assertion a) = true
is_term (piece.Atom a) = true
is_term _ = false

character_term : (o : Option (ℕ × List ℕ)) (p : Piece) (rest : List ℕ) → character_piece o ≡ Some (p, rest) → is_term p ≡ true
character_term None p rest e = absurd cc
character_term (Some x) p rest e = subst (λ (y : Piece). is_term y ≡ true) (parts_same Piece (List ℕ) (piece.Atom (atom.Unit x.0), x.1) (p, rest) e).0 refl

escape_or_term : (o : Option ClassEscape) (F : List ℕ → Option (Piece × List ℕ)) → Sure is_term F → Sure is_term (λ (us : List ℕ). class_escape_or o us (F us))
escape_or_term None F f = f
escape_or_term (Some e) F f = sure_some is_term (piece.Atom (atom.Escape e)) refl

escape_term : Sure is_term escape_at
unfolding escape_at
escape_term [] p rest e = absurd cc
escape_term (u ∷ us) p rest e =
    sure_when is_term (u == 98) (λ (us : List ℕ). Some (piece.Assertion assertion.Word, us)) (λ (us : List ℕ). cond (u == 66) (Some (piece.Assertion assertion.NotWord, us)) (cond (nat_le 49 u && nat_le u 57) (back_piece (digits_from 0 (u ∷ us))) (class_escape_or (class_escape_of u) us (character_piece (character_at (u ∷ us)))))) (λ d. sure_some is_term (piece.Assertion assertion.Word) refl)
    (sure_when is_term (u == 66) (λ (us : List ℕ). Some (piece.Assertion assertion.NotWord, us)) (λ (us : List ℕ). cond (nat_le 49 u && nat_le u 57) (back_piece (digits_from 0 (u ∷ us))) (class_escape_or (class_escape_of u) us (character_piece (character_at (u ∷ us))))) (λ d. sure_some is_term (piece.Assertion assertion.NotWord) refl)
    (sure_when is_term (nat_le 49 u && nat_le u 57) (λ (us : List ℕ). back_piece (digits_from 0 (u ∷ us))) (λ (us : List ℕ). class_escape_or (class_escape_of u) us (character_piece (character_at (u ∷ us))))
    (λ d us p rest e. subst (λ (y : Piece). is_term y ≡ true) (parts_same Piece (List ℕ) (piece.Atom (atom.Back (digits_from 0 (u ∷ us)).0), (digits_from 0 (u ∷ us)).1) (p, rest) e).0 refl)
    (escape_or_term (class_escape_of u) (λ (us : List ℕ). character_piece (character_at (u ∷ us))) (λ us p rest e. character_term (character_at (u ∷ us)) p rest e))))
    us p rest e

class_is : Sure (begins_with 91) class_at
unfolding class_at
class_is [] p rest e = subst (λ (x : Piece). begins_with 91 x ≡ true) (parts_same Piece (List ℕ) (piece.Class false, []) (p, rest) e).0 refl
class_is (u ∷ us) p rest e = by (u == 94) e
  where
    by : (c : Bool) → cond {A = Option (Piece × List ℕ)} c (Some (piece.Class true, us)) (Some (piece.Class false, u ∷ us)) ≡ Some (p, rest) → begins_with 91 p ≡ true
    by true e = subst (λ (x : Piece). begins_with 91 x ≡ true) (parts_same Piece (List ℕ) (piece.Class true, us) (p, rest) e).0 refl
    by false e = subst (λ (x : Piece). begins_with 91 x ≡ true) (parts_same Piece (List ℕ) (piece.Class false, u ∷ us) (p, rest) e).0 refl

term_first : (p : Piece) → is_term p ≡ true → begins_with 92 p ≡ true
term_first (piece.Assertion a) e = refl
term_first (piece.Atom (atom.Back n)) e = refl
term_first (piece.Atom _) e = refl
term_first _ e = absurd cc

open_first : (p : Piece) → is_open p ≡ true → begins_with 40 p ≡ true
open_first (piece.Open kind) e = refl
open_first _ e = absurd cc

brace_first : (u : ℕ) → Sure (begins_with u) (λ (us : List ℕ). brace_piece (braces_at us) us)
brace_first u us p rest e = by (braces_at us) e
  where
    by : (o : Option (Braces × List ℕ)) → brace_piece o us ≡ Some (p, rest) → begins_with u p ≡ true
    by None e = subst (λ (x : Piece). begins_with u x ≡ true) (parts_same Piece (List ℕ) (piece.Atom (atom.Unit 123), us) (p, rest) e).0 refl
    by (Some x) e = absurd cc

plain_first : (u : ℕ) → Sure (begins_with u) (λ (us : List ℕ). plain_at u us)
unfolding plain_at
plain_first u = step (u == 124) piece.Bar (λ d. refl) (step (u == 41) piece.Close (λ d. d) (step (u == 94) (piece.Assertion assertion.LineStart) (λ d. refl) (step (u == 36) (piece.Assertion assertion.LineEnd) (λ d. refl) (step (u == 46) (piece.Atom atom.Dot) (λ d. refl) (stop (u == 42) (stop (u == 43) (stop (u == 63) (sure_some (begins_with u) (piece.Atom (atom.Unit u)) refl))))))))
  where
    step : (c : Bool) (v : Piece) {F : List ℕ → Option (Piece × List ℕ)} → (c ≡ true → begins_with u v ≡ true) → Sure (begins_with u) F → Sure (begins_with u) (λ (us : List ℕ). cond c (Some (v, us)) (F us))
    step c v {F = F} h f = sure_when (begins_with u) c (λ (us : List ℕ). Some (v, us)) F (λ d. sure_some (begins_with u) v (h d)) f

    stop : (c : Bool) {F : List ℕ → Option (Piece × List ℕ)} → Sure (begins_with u) F → Sure (begins_with u) (λ (us : List ℕ). cond c None (F us))
    stop c {F = F} f = sure_when (begins_with u) c (λ (us : List ℕ). None) F (λ d. sure_none (begins_with u)) f

at_same : (k u : ℕ) → (u == k) ≡ true → (F : List ℕ → Option (Piece × List ℕ)) → Sure (begins_with k) F → Sure (begins_with u) F
at_same k u d F f us p rest e = subst (λ (x : ℕ). begins_with x p ≡ true) (sym (eqb-true u k d)) (f us p rest e)

pub piece_first : (u : ℕ) (us : List ℕ) (p : Piece) (rest : List ℕ) → piece_at (u ∷ us) ≡ Some (p, rest) → begins_with u p ≡ true
unfolding piece_at
piece_first u =
    sure_when (begins_with u) (u == 92) escape_at (λ (us : List ℕ). cond (u == 40) (group_at us) (cond (u == 91) (class_at us) (cond (u == 123) (brace_piece (braces_at us) us) (plain_at u us)))) (λ d. at_same 92 u d escape_at (λ us p rest e. term_first p (escape_term us p rest e)))
    (sure_when (begins_with u) (u == 40) group_at (λ (us : List ℕ). cond (u == 91) (class_at us) (cond (u == 123) (brace_piece (braces_at us) us) (plain_at u us))) (λ d. at_same 40 u d group_at (λ us p rest e. open_first p (group_open us p rest e)))
    (sure_when (begins_with u) (u == 91) class_at (λ (us : List ℕ). cond (u == 123) (brace_piece (braces_at us) us) (plain_at u us)) (λ d. at_same 91 u d class_at class_is)
    (sure_when (begins_with u) (u == 123) (λ (us : List ℕ). brace_piece (braces_at us) us) (λ (us : List ℕ). plain_at u us) (λ d. brace_first u) (plain_first u))))

-- ---- backreferences

unit_only : (o : Option (ℕ × List ℕ)) (n : ℕ) (rest : List ℕ) → character_piece o ≡ Some (piece.Atom (atom.Back n), rest) → ⊥
unit_only None n rest e = cc
unit_only (Some x) n rest e = let p = (parts_same Piece (List ℕ) (piece.Atom (atom.Unit x.0), x.1) (piece.Atom (atom.Back n), rest) e).0 in cc

abbrev pair : ℕ → List ℕ → ℕ × List ℕ
pair x us = (x, us)

-- a backreference begins with a digit but 0, and its number is that of all digits
pub record BackAt (us : List ℕ) (n : ℕ) (rest : List ℕ) : Type 0 where
  pub first : ℕ
  pub others : List ℕ
  pub is : us ≡ first ∷ others
  pub positive : (nat_le 49 first && nat_le first 57) ≡ true
  pub letter : (first == 98) ≡ false
  pub other : (first == 66) ≡ false
  pub number : digits_from 0 us ≡ (n, rest)

pub back_at : (us : List ℕ) (n : ℕ) (rest : List ℕ) → escape_at us ≡ Some (piece.Atom (atom.Back n), rest) → BackAt us n rest
unfolding escape_at
back_at [] n rest e = absurd cc
back_at (u ∷ us) n rest e = by (u == 98) (u == 66) (nat_le 49 u && nat_le u 57) (class_escape_of u) refl refl refl e
  where
    by : (a b c : Bool) (o : Option ClassEscape) → (u == 98) ≡ a → (u == 66) ≡ b → (nat_le 49 u && nat_le u 57) ≡ c → cond {A = Option (Piece × List ℕ)} a (Some (piece.Assertion assertion.Word, us)) (cond b (Some (piece.Assertion assertion.NotWord, us)) (cond c (back_piece (digits_from 0 (u ∷ us))) (class_escape_or o us (character_piece (character_at (u ∷ us)))))) ≡ Some (piece.Atom (atom.Back n), rest) → BackAt (u ∷ us) n rest
    by true b c o f g h e = absurd (let p = (parts_same Piece (List ℕ) (piece.Assertion assertion.Word, us) (piece.Atom (atom.Back n), rest) e).0 in cc)
    by false true c o f g h e = absurd (let p = (parts_same Piece (List ℕ) (piece.Assertion assertion.NotWord, us) (piece.Atom (atom.Back n), rest) e).0 in cc)
    by false false true o f g h e =
        let p = parts_same Piece (List ℕ) (piece.Atom (atom.Back (digits_from 0 (u ∷ us)).0), (digits_from 0 (u ∷ us)).1) (piece.Atom (atom.Back n), rest) e in
        let same : (digits_from 0 (u ∷ us)).0 ≡ n = let q = p.0 in cc in
        record { first = u; others = us; is = refl; positive = h; letter = f; other = g; number = ap (λ (x : ℕ). pair x (digits_from 0 (u ∷ us)).1) same ∙ ap (λ (x : List ℕ). pair n x) p.1 }
    by false false false (Some k) f g h e = absurd (let p = (parts_same Piece (List ℕ) (piece.Atom (atom.Escape k), us) (piece.Atom (atom.Back n), rest) e).0 in cc)
    by false false false None f g h e = absurd (unit_only (character_at (u ∷ us)) n rest e)

pub back_begins : (u : ℕ) (more : List ℕ) → (nat_le 49 u && nat_le u 57) ≡ true → (u == 98) ≡ false → (u == 66) ≡ false → piece_at (92 ∷ u ∷ more) ≡ back_piece (digits_from 0 (u ∷ more))
unfolding piece_at escape_at
back_begins u more h f g = rw (f, g, h) refl

pub back_escapes : (units : List ℕ) (n : ℕ) (rest : List ℕ) → piece_at units ≡ Some (piece.Atom (atom.Back n), rest) → (us : List ℕ) × (units ≡ 92 ∷ us) × (escape_at us ≡ Some (piece.Atom (atom.Back n), rest))
unfolding piece_at
back_escapes [] n rest e = absurd cc
back_escapes (u ∷ us) n rest e =
    let is = eqb-true u 92 (piece_first u us (piece.Atom (atom.Back n)) rest e) in
    (us, ap (λ (x : ℕ). x ∷ us) is, ap (λ (x : ℕ). piece_at (x ∷ us)) (sym is) ∙ e)
