-- A mark that begins with `/` is division or its assignment.
use Rattle.std.proofs.Common.{◌≡◌, ℕ, zero, suc, ◌-◌, ◌||◌, not, cond, Bool, true, false, List, [], ◌∷◌, take, drop, Option, Some, None, refl, ap, subst, ◌∙◌, inl, inr}
use Rattle.std.specs.Prelude.{◌⊎◌, bytes_eq}
use Rattle.std.proofs.lemmas.Slice.Eq.{bytes_eq-Decides}
use Rattle.js_ast.specs.declared.operators.BinaryOp.TheVariants as op
use Rattle.js_grammar.specs.declared.token.TokenKind.{TokenKind}
use Rattle.js_grammar.specs.declared.token.TokenKind.TheVariants as k
use Rattle.js_lexer.specs.Slash.{begins_slash}
use Rattle.js_lexer.specs.declared.token.Token.{Token as Lexed}
use Rattle.js_parser.specs.Tokens.{entry, marks, units_of, kind_of_mark, kind_of_entry}
use Rattle.js_parser.specs.declared.tokens.Mark.{Mark}

abbrev pub is_division : TokenKind → Bool
is_division (k.Binary op.Divide) = true
is_division (k.Assign (Some op.Divide)) = true
is_division _ = false

-- of an entry of the table
abbrev divides : List ℕ × Mark → Bool
divides e = not (begins_slash e.0) || is_division (kind_of_mark e.1)

abbrev all_divide : List (List ℕ × Mark) → Bool
all_divide [] = true
all_divide (e ∷ es) = cond (divides e) (all_divide es) false

marks_divide : all_divide marks ≡ true
unfolding marks
marks_divide = refl

empty_entry : entry marks [] ≡ None
unfolding marks
empty_entry = refl

both : (a b : Bool) → cond a b false ≡ true → (a ≡ true) × (b ≡ true)
both true b h = (refl, h)
both false b h = absurd cc

either : (a b : Bool) → (not a || b) ≡ true → a ≡ true → b ≡ true
either true b h g = h
either false b h g = absurd cc

some_is : {A : Type 0} (x y : A) → Some x ≡ Some y → x ≡ y
some_is x y h = cc

entry_by : (q : Bool) (e : List ℕ × Mark) (es : List (List ℕ × Mark)) (units : List ℕ) (m : Mark) → bytes_eq e.0 units ≡ q → divides e ≡ true → begins_slash units ≡ true → (entry es units ≡ Some m → is_division (kind_of_mark m) ≡ true) → cond q (Some e.1) (entry es units) ≡ Some m → is_division (kind_of_mark m) ≡ true
entry_by true e es units m r a b f h =
    let same : e.0 ≡ units = (bytes_eq-Decides e.0 units).0 r in
    subst (λ (x : Mark). is_division (kind_of_mark x) ≡ true) (some_is e.1 m h) (either (begins_slash e.0) (is_division (kind_of_mark e.1)) a (ap begins_slash same ∙ b))
entry_by false e es units m r a b f h = f h

entry_divides : (es : List (List ℕ × Mark)) (units : List ℕ) (m : Mark) → all_divide es ≡ true → begins_slash units ≡ true → entry es units ≡ Some m → is_division (kind_of_mark m) ≡ true
entry_divides [] units m a b h = absurd cc
entry_divides (e ∷ es) units m a b h =
    let w : (divides e ≡ true) × (all_divide es ≡ true) = both (divides e) (all_divide es) a in
    entry_by (bytes_eq e.0 units) e es units m refl w.0 b (entry_divides es units m w.1 b) h

front_slash : (n : ℕ) (units : List ℕ) → begins_slash units ≡ true → (take n units ≡ []) ⊎ (begins_slash (take n units) ≡ true)
front_slash zero units h = inl refl
front_slash (suc n) [] h = absurd cc
front_slash (suc n) (u ∷ us) h = inr h

mark_slash : (n : ℕ) (units : List ℕ) (m : Mark) → entry marks (take n units) ≡ Some m → begins_slash units ≡ true → is_division (kind_of_mark m) ≡ true
mark_slash n units m h b =
    elim (front_slash n units b) [
      | inl e ↦ absurd (let z : entry marks (take n units) ≡ None = ap (entry marks) e ∙ empty_entry in cc)
      | inr s ↦ entry_divides marks (take n units) m marks_divide s h
    ]

kind_slash : (o : Option Mark) (n : ℕ) (units : List ℕ) (kind : TokenKind) → entry marks (take n units) ≡ o → kind_of_entry o ≡ Some kind → begins_slash units ≡ true → is_division kind ≡ true
kind_slash None n units kind e h b = absurd cc
kind_slash (Some m) n units kind e h b = subst (λ (x : TokenKind). is_division x ≡ true) (some_is (kind_of_mark m) kind h) (mark_slash n units m e b)

pub slash_kind : (text : List ℕ) (t : Lexed) (kind : TokenKind) → kind_of_entry (entry marks (units_of text t)) ≡ Some kind → begins_slash (drop t.start text) ≡ true → is_division kind ≡ true
slash_kind text t kind h b = kind_slash (entry marks (units_of text t)) (t.end - t.start) (drop t.start text) kind refl h b
