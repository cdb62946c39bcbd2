-- Pieces are read again in front of units that agree with those behind them.
use Rattle.std.proofs.Common.{◌≡◌, ℕ, ◌+◌, Bool, true, false, cond, List, [], ◌∷◌, ◌++◌, Option, Some, None, refl, sym, ap, subst, ◌∙◌, arith, leb-true, le-leb}
use Rattle.std.specs.Prelude.{◌==◌, ◌&&◌, ◌*◌, ◌-◌, nat_le, min}
use Rattle.std.proofs.lemmas.Bool.{and_parts}
use Rattle.re_parser.specs.Agreement.{Agree, is_question, is_caret}
use Rattle.js_units.specs.Characters.{is_digit}
use Rattle.re_parser.specs.Escapes.{starts, character_at, class_escape_of}
use Rattle.re_parser.specs.Quantifiers.{digits_from, braces_at}
use Rattle.re_parser.specs.Pieces.{marked_group_at, group_at, class_at, character_piece, class_escape_or, back_piece, escape_at, brace_piece, plain_at, piece_at}
use Rattle.re_parser.specs.declared.kinds.ClassEscape.{ClassEscape}
use Rattle.re_parser.specs.declared.kinds.Braces.{Braces}
use Rattle.re_parser.specs.declared.kinds.Assertion.TheVariants as assertion
use Rattle.re_parser.specs.declared.kinds.GroupKind.TheVariants as group
use Rattle.re_parser.specs.declared.kinds.Atom.TheVariants as atom
use Rattle.re_parser.specs.declared.kinds.Piece.{Piece}
use Rattle.re_parser.specs.declared.kinds.Piece.TheVariants as piece
use Rattle.re_parser.proofs.Members.{parts_same}
use Rattle.re_parser.proofs.Cuts.{Cut, Cuts, Digits, cuts_none, cuts_some, cuts_cond, cuts_cons, cuts_map, fronts_character}
use Rattle.re_parser.proofs.Numbers.{digits_cut, counted}

-- ---- pieces

agree_digits : Digits Agree
agree_digits rest more a = a.digit

marked_cut : Cuts Agree Piece marked_group_at
marked_cut = cuts_cons Agree Piece marked_group_at refl (λ u.
    cuts_cond Agree Piece (u == 58) (λ (us : List ℕ). Some (piece.Open group.Plain, us)) (λ (us : List ℕ). cond (u == 61) (Some (piece.Open group.Ahead, us)) (cond (u == 33) (Some (piece.Open group.NotAhead, us)) None)) (cuts_some Agree Piece (piece.Open group.Plain))
    (cuts_cond Agree Piece (u == 61) (λ (us : List ℕ). Some (piece.Open group.Ahead, us)) (λ (us : List ℕ). cond (u == 33) (Some (piece.Open group.NotAhead, us)) None) (cuts_some Agree Piece (piece.Open group.Ahead))
    (cuts_cond Agree Piece (u == 33) (λ (us : List ℕ). Some (piece.Open group.NotAhead, us)) (λ (us : List ℕ). None) (cuts_some Agree Piece (piece.Open group.NotAhead)) (cuts_none Agree Piece))))

-- where the first unit isn't the one that is looked for, the same is read
unmarked : (test : ℕ → Bool) (v : Piece) (G F : List ℕ → Option (Piece × List ℕ)) → (F [] ≡ Some (v, [])) → ((u : ℕ) (us : List ℕ) → F (u ∷ us) ≡ cond (test u) (G us) (Some (v, u ∷ us))) → ((rest more : List ℕ) → Agree rest more → starts test rest ≡ false → starts test more ≡ false) → Cuts Agree Piece G → Cuts Agree Piece F
unmarked test v G F n s h g us p rest e = by us e
  where
    plain : (more : List ℕ) → starts test more ≡ false → F more ≡ Some (v, more)
    plain [] d = n
    plain (u ∷ us) d = rw (s u us, d) refl

    deep : (u : ℕ) (us : List ℕ) (c : Bool) → test u ≡ c → cond {A = Option (Piece × List ℕ)} c (G us) (Some (v, u ∷ us)) ≡ Some (p, rest) → Cut Agree Piece F (u ∷ us) p rest
    deep u us true d e =
        let c = g us p rest e in
        record { part = u ∷ c.part; parts = ap (λ (x : List ℕ). u ∷ x) c.parts; again = λ more a. rw (s u (c.part ++ more), d) (c.again more a) }
    deep u us false d e =
        let k = parts_same Piece (List ℕ) (v, u ∷ us) (p, rest) e in
        record { part = []; parts = k.1; again = λ more a. plain more (h rest more a (subst (λ (q : List ℕ). starts test q ≡ false) k.1 d)) ∙ ap (λ (x : Piece). Some (x, more)) k.0 }

    by : (us : List ℕ) → F us ≡ Some (p, rest) → Cut Agree Piece F us p rest
    by [] e =
        let k = parts_same Piece (List ℕ) (v, []) (p, rest) (sym n ∙ e) in
        record { part = []; parts = k.1; again = λ more a. plain more (h rest more a (subst (λ (q : List ℕ). starts test q ≡ false) k.1 refl)) ∙ ap (λ (x : Piece). Some (x, more)) k.0 }
    by (u ∷ us) e = deep u us (test u) refl (sym (s u us) ∙ e)

group_cut : Cuts Agree Piece group_at
unfolding group_at
group_cut = unmarked is_question (piece.Open group.Capturing) marked_group_at group_at refl (λ u us. refl) (λ rest more a. a.question) marked_cut

class_cut : Cuts Agree Piece class_at
unfolding class_at
class_cut = unmarked is_caret (piece.Class false) (λ (us : List ℕ). Some (piece.Class true, us)) class_at refl (λ u us. refl) (λ rest more a. a.caret) (cuts_some Agree Piece (piece.Class true))

brace_cut : Cuts Agree Piece (λ (us : List ℕ). brace_piece (braces_at us) us)
brace_cut us v rest e = by (braces_at us) refl e
  where
    by : (o : Option (Braces × List ℕ)) → braces_at us ≡ o → brace_piece o us ≡ Some (v, rest) → Cut Agree Piece (λ (us : List ℕ). brace_piece (braces_at us) us) us v rest
    by (Some x) d e = absurd cc
    by None d e =
        let k = parts_same Piece (List ℕ) (piece.Atom (atom.Unit 123), us) (v, rest) e in
        record { part = []; parts = k.1; again = λ more a. rw (a.braces [] (subst (λ (q : List ℕ). braces_at q ≡ None) k.1 d)) (ap (λ (x : Piece). Some (x, more)) k.0) }

plain_cut : (u : ℕ) → Cuts Agree Piece (λ (us : List ℕ). plain_at u us)
unfolding plain_at
plain_cut u = step (u == 124) piece.Bar (step (u == 41) piece.Close (step (u == 94) (piece.Assertion assertion.LineStart) (step (u == 36) (piece.Assertion assertion.LineEnd) (step (u == 46) (piece.Atom atom.Dot) (stop (u == 42) (stop (u == 43) (stop (u == 63) (cuts_some Agree Piece (piece.Atom (atom.Unit u))))))))))
  where
    step : (c : Bool) (v : Piece) {F : List ℕ → Option (Piece × List ℕ)} → Cuts Agree Piece F → Cuts Agree Piece (λ (us : List ℕ). cond c (Some (v, us)) (F us))
    step c v {F = F} f = cuts_cond Agree Piece c (λ (us : List ℕ). Some (v, us)) F (cuts_some Agree Piece v) f

    stop : (c : Bool) {F : List ℕ → Option (Piece × List ℕ)} → Cuts Agree Piece F → Cuts Agree Piece (λ (us : List ℕ). cond c None (F us))
    stop c {F = F} f = cuts_cond Agree Piece c (λ (us : List ℕ). None) F (cuts_none Agree Piece) f

cuts_when : (A : List ℕ → List ℕ → Type 0) (V : Type 0) (c : Bool) (F G : List ℕ → Option (V × List ℕ)) → (c ≡ true → Cuts A V F) → Cuts A V G → Cuts A V (λ (us : List ℕ). cond c (F us) (G us))
cuts_when A V true F G f g = f refl
cuts_when A V false F G f g = g

back_cut : (u : ℕ) → is_digit u ≡ true → Cuts Agree Piece (λ (us : List ℕ). back_piece (digits_from 0 (u ∷ us)))
back_cut u d us v rest e =
    let first : (more : List ℕ) → digits_from 0 (u ∷ more) ≡ digits_from (min (0 * 10 + (u - 48)) 65536) more = λ more. rw d refl in
    let p = parts_same Piece (List ℕ) (piece.Atom (atom.Back (digits_from 0 (u ∷ us)).0), (digits_from 0 (u ∷ us)).1) (v, rest) e in
    let there : digits_from (min (0 * 10 + (u - 48)) 65536) us ≡ ((digits_from 0 (u ∷ us)).0, rest) = sym (first us) ∙ ap (λ (q : List ℕ). counted (digits_from 0 (u ∷ us)).0 q) p.1 in
    let c = digits_cut Agree agree_digits us (min (0 * 10 + (u - 48)) 65536) (digits_from 0 (u ∷ us)).0 rest there in
    record { part = c.part; parts = c.parts; again = λ more a. ap back_piece (first (c.part ++ more) ∙ c.again more a) ∙ ap (λ (x : Piece). Some (x, more)) p.0 }

cuts_escape_or : (o : Option ClassEscape) (F : List ℕ → Option (Piece × List ℕ)) → Cuts Agree Piece F → Cuts Agree Piece (λ (us : List ℕ). class_escape_or o us (F us))
cuts_escape_or None F f = f
cuts_escape_or (Some e) F f = cuts_some Agree Piece (piece.Atom (atom.Escape e))

pub is_back : (u : ℕ) → (nat_le 49 u && nat_le u 57) ≡ true → is_digit u ≡ true
unfolding is_digit
is_back u e =
    let p = and_parts (nat_le 49 u) (nat_le u 57) e in
    let low : nat_le 48 u ≡ true = le-leb 48 u (omega (arith, leb-true 49 u p.0)) in
    rw (low, p.1) refl

escape_cut : Cuts Agree Piece escape_at
unfolding escape_at
escape_cut = cuts_cons Agree Piece escape_at refl (λ u.
    cuts_cond Agree Piece (u == 98) (λ (us : List ℕ). Some (piece.Assertion assertion.Word, us)) (λ (us : List ℕ). cond (u == 66) (Some (piece.Assertion assertion.NotWord, us)) (cond (nat_le 49 u && nat_le u 57) (back_piece (digits_from 0 (u ∷ us))) (class_escape_or (class_escape_of u) us (character_piece (character_at (u ∷ us)))))) (cuts_some Agree Piece (piece.Assertion assertion.Word))
    (cuts_cond Agree Piece (u == 66) (λ (us : List ℕ). Some (piece.Assertion assertion.NotWord, us)) (λ (us : List ℕ). cond (nat_le 49 u && nat_le u 57) (back_piece (digits_from 0 (u ∷ us))) (class_escape_or (class_escape_of u) us (character_piece (character_at (u ∷ us))))) (cuts_some Agree Piece (piece.Assertion assertion.NotWord))
    (cuts_when Agree Piece (nat_le 49 u && nat_le u 57) (λ (us : List ℕ). back_piece (digits_from 0 (u ∷ us))) (λ (us : List ℕ). class_escape_or (class_escape_of u) us (character_piece (character_at (u ∷ us)))) (λ e. back_cut u (is_back u e))
    (cuts_escape_or (class_escape_of u) (λ (us : List ℕ). character_piece (character_at (u ∷ us))) (cuts_map Agree ℕ Piece (λ (us : List ℕ). character_at (u ∷ us)) (λ (x : ℕ). piece.Atom (atom.Unit x)) character_piece refl (λ x us. refl) (fronts_character Agree agree_digits u))))))

pub piece_cut : Cuts Agree Piece piece_at
unfolding piece_at
piece_cut = cuts_cons Agree Piece piece_at refl (λ u.
    cuts_cond Agree Piece (u == 92) escape_at (λ (us : List ℕ). cond (u == 40) (group_at us) (cond (u == 91) (class_at us) (cond (u == 123) (brace_piece (braces_at us) us) (plain_at u us)))) escape_cut
    (cuts_cond Agree Piece (u == 40) group_at (λ (us : List ℕ). cond (u == 91) (class_at us) (cond (u == 123) (brace_piece (braces_at us) us) (plain_at u us))) group_cut
    (cuts_cond Agree Piece (u == 91) class_at (λ (us : List ℕ). cond (u == 123) (brace_piece (braces_at us) us) (plain_at u us)) class_cut
    (cuts_cond Agree Piece (u == 123) (λ (us : List ℕ). brace_piece (braces_at us) us) (λ (us : List ℕ). plain_at u us) brace_cut (plain_cut u)))))
