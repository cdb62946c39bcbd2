-- The first unit of a lexeme tells its family.
use Rattle.std.proofs.Common.{◌≡◌, ℕ, ◌<◌, Bool, true, false, cond, List, [], ◌∷◌, ◌++◌, length, Option, Some, None, refl, ap, subst, ◌∙◌, arith, inl, inr}
use Rattle.std.specs.Prelude.{◌⊎◌, ◌||◌, ◌&&◌, ◌==◌, not, codes, bytes_eq}
use Rattle.std.specs.List.{list_all}
use Rattle.std.proofs.lemmas.Bool.{eqb-true, and_parts, not-true}
use Rattle.std.proofs.lemmas.Slice.Eq.{bytes_eq-Decides}
use Rattle.js_units.specs.Characters.{is_letter, is_digit, is_name_start}
use Rattle.js_lexer.specs.Classes.{is_quote}
use Rattle.js_lexer.specs.Runs.{starts}
use Rattle.js_lexer.specs.Tables.{is_among, marks, refused_marks}
use Rattle.js_lexer.specs.Numbers.{IsNumeral}
use Rattle.js_lexer.specs.Texts.{IsText}
use Rattle.js_lexer.specs.Patterns.{IsPattern}
use Rattle.js_lexer.specs.Lexemes.{IsName, permits, IsMark, is_refused, IsRefused, Spells}
use Rattle.js_lexer.specs.Reading.{wants_pattern, family_of}
use Rattle.js_lexer.specs.declared.token.Goal.{Goal}
use Rattle.js_lexer.specs.declared.token.Goal.TheVariants as goals
use Rattle.js_lexer.specs.declared.token.TokenKind.TheVariants as k
use Rattle.js_lexer.specs.declared.token.Lexeme.{Lexeme}
use Rattle.js_lexer.specs.declared.token.Lexeme.TheVariants as lexeme
use Rattle.js_lexer.specs.declared.lexer.Family.{Family}
use Rattle.js_lexer.specs.declared.lexer.Family.TheVariants as family

abbrev pub family_at : Goal → List ℕ → Option Family
family_at goal [] = None
family_at goal (u ∷ us) = Some (family_of goal u)

abbrev pub lexeme_family : Lexeme → Option Family
lexeme_family (lexeme.Token k.Name) = Some family.Name
lexeme_family (lexeme.Token k.Word) = Some family.Name
lexeme_family (lexeme.Token k.Number) = Some family.Number
lexeme_family (lexeme.Token k.WideNumber) = Some family.Number
lexeme_family (lexeme.Token k.Text) = Some family.Text
lexeme_family (lexeme.Token k.Pattern) = Some family.Pattern
lexeme_family (lexeme.Token k.Mark) = Some family.Mark
lexeme_family (lexeme.Token k.Finish) = None
lexeme_family lexeme.Refused = Some family.Mark

-- ---- names

name_first : (g : Goal) (name rest : List ℕ) → starts is_name_start name ≡ true → family_at g (name ++ rest) ≡ Some family.Name
unfolding family_of
name_first g [] rest e = absurd cc
name_first g (u ∷ name) rest e = rw e refl

name_family : (g : Goal) (reserved : Bool) (units rest : List ℕ) → IsName reserved units rest → family_at g units ≡ Some family.Name
name_family g reserved units rest h = ap (family_at g) h.units_are ∙ name_first g h.name rest h.begins

-- ---- numbers

-- no digit begins a name
digit_apart : (u : ℕ) → is_digit u ≡ true → is_name_start u ≡ false
unfolding is_digit is_name_start is_letter
digit_apart u e = grind (arith, eqb-true)

digit_first : (g : Goal) (digits rest : List ℕ) → 0 < length digits → list_all is_digit digits ≡ true → family_at g (digits ++ rest) ≡ Some family.Number
unfolding family_of
digit_first g [] rest some all = absurd (omega arith)
digit_first g (d ∷ digits) rest some all = let e = (and_parts (is_digit d) (list_all is_digit digits) all).0 in rw (digit_apart d e, e) refl

zero_first : (g : Goal) (us : List ℕ) → family_at g (48 ∷ us) ≡ Some family.Number
unfolding family_of is_digit is_name_start is_letter
zero_first g us = refl

number_family : (g : Goal) (units : List ℕ) (value : ℕ) (rest : List ℕ) → IsNumeral units value rest → family_at g units ≡ Some family.Number
number_family g units value rest h = elim h.spelt [
  | inl d ↦ ap (family_at g) d.units_are ∙ digit_first g d.digits rest d.some d.all
  | inr x ↦ ap (family_at g) x.units_are ∙ zero_first g (x.x ∷ x.digits ++ rest)
]

-- ---- texts

quote_units : (u : ℕ) → is_quote u ≡ true → (u ≡ 34) ⊎ (u ≡ 39)
unfolding is_quote
quote_units u e = grind (arith, eqb-true)

quote_first : (g : Goal) (u : ℕ) → is_quote u ≡ true → family_of g u ≡ family.Text
unfolding family_of is_digit is_name_start is_letter is_quote
quote_first g u e = elim (quote_units u e) [ inl h ↦ rw h refl | inr h ↦ rw h refl ]

text_family : (g : Goal) (units value rest : List ℕ) → IsText units value rest → family_at g units ≡ Some family.Text
text_family g units value rest h = ap (family_at g) h.units_are ∙ ap (λ q. Some q) (quote_first g h.quote h.is_quote)

-- ---- patterns

slash_first : (us : List ℕ) → family_at goals.Pattern (47 ∷ us) ≡ Some family.Pattern
unfolding family_of is_digit is_name_start is_letter is_quote
slash_first us = refl

pattern_family : (g : Goal) (units body flags rest : List ℕ) → g ≡ goals.Pattern → IsPattern units body flags rest → family_at g units ≡ Some family.Pattern
pattern_family g units body flags rest e h = ap (λ q. family_at q units) e ∙ ap (family_at goals.Pattern) h.units_are ∙ slash_first (body ++ 47 ∷ h.behind)

-- ---- marks

-- what holds of each entry of a table holds of what is among them
pub all_among : (test : List ℕ → Bool) (table : List (List ℕ)) (units : List ℕ) → list_all test table ≡ true → is_among table units ≡ true → test units ≡ true
all_among test [] units all e = absurd cc
all_among test (entry ∷ table) units all e =
    let parts = and_parts (test entry) (list_all test table) all in
    by (bytes_eq entry units) refl e parts.0 (all_among test table units parts.1)
  where
    by : (x : Bool) → bytes_eq entry units ≡ x → (x || is_among table units) ≡ true → test entry ≡ true → (is_among table units ≡ true → test units ≡ true) → test units ≡ true
    by true h f here more = subst (λ (q : List ℕ). test q ≡ true) ((bytes_eq-Decides entry units).0 h) here
    by false h f here more = more f

-- what begins no other lexeme
is_other : ℕ → Bool
is_other u = not (is_name_start u || is_digit u || is_quote u)

marks_other : list_all (starts is_other) marks ≡ true
unfolding marks is_other is_digit is_name_start is_letter is_quote
marks_other = refl

refused_other : list_all (starts (λ u. is_other u && not (u == 47))) refused_marks ≡ true
unfolding refused_marks is_other is_digit is_name_start is_letter is_quote
refused_other = refl

or_three : (x y z : Bool) → not (x || y || z) ≡ true → (x ≡ false) × (y ≡ false) × (z ≡ false)
or_three false false false e = (refl, refl, refl)
or_three true y z e = absurd cc
or_three false true z e = absurd cc
or_three false false true e = absurd cc

other_family : (g : Goal) (u : ℕ) → is_other u ≡ true → (u == 47 && wants_pattern g) ≡ false → family_of g u ≡ family.Mark
unfolding family_of is_other
other_family g u e apart = let parts = or_three (is_name_start u) (is_digit u) (is_quote u) e in rw (parts.0, parts.1, parts.2, apart) refl

and_false : (x : Bool) → (x && false) ≡ false
and_false true = refl
and_false false = refl

permits_apart : (g : Goal) (u : ℕ) (us : List ℕ) → permits g (u ∷ us) ≡ true → (u == 47 && wants_pattern g) ≡ false
permits_apart goals.Division u us e = and_false (u == 47)
permits_apart goals.Pattern u us e = by (u == 47) e
  where
    by : (x : Bool) → not x ≡ true → (x && true) ≡ false
    by true f = absurd cc
    by false f = refl

mark_first : (g : Goal) (mark rest : List ℕ) → starts is_other mark ≡ true → permits g mark ≡ true → family_at g (mark ++ rest) ≡ Some family.Mark
mark_first g [] rest e p = absurd cc
mark_first g (u ∷ mark) rest e p = ap (λ q. Some q) (other_family g u e (permits_apart g u mark p))

mark_family : (g : Goal) (units rest : List ℕ) → IsMark g units rest → family_at g units ≡ Some family.Mark
mark_family g units rest h = ap (family_at g) h.units_are ∙ mark_first g h.mark rest (all_among (starts is_other) marks h.mark marks_other h.is_mark) h.is_permitted

refused_by : (g : Goal) (u : ℕ) → (is_other u && not (u == 47)) ≡ true → family_of g u ≡ family.Mark
refused_by g u e =
    let parts = and_parts (is_other u) (not (u == 47)) e in
    let apart : u == 47 ≡ false = not-true (u == 47) parts.1 in
    other_family g u parts.0 (rw apart refl)

refused_first : (g : Goal) (mark rest : List ℕ) → starts (λ u. is_other u && not (u == 47)) mark ≡ true → family_at g (mark ++ rest) ≡ Some family.Mark
refused_first g [] rest e = absurd cc
refused_first g (u ∷ mark) rest e = ap (λ q. Some q) (refused_by g u e)

close_other : starts (λ u. is_other u && not (u == 47)) (codes "-->") ≡ true
unfolding is_other is_digit is_name_start is_letter is_quote
close_other = refl

chain_other : starts (λ u. is_other u && not (u == 47)) (codes "?.") ≡ true
unfolding is_other is_digit is_name_start is_letter is_quote
chain_other = refl

-- the three ways of being refused
pub data Refusal (s : Bool) (mark rest : List ℕ) : Type 0 where
  refusal_mark : is_among refused_marks mark ≡ true → Refusal s mark rest
  refusal_close : s ≡ true → mark ≡ codes "-->" → Refusal s mark rest
  refusal_chain : mark ≡ codes "?." → starts is_digit rest ≡ false → Refusal s mark rest

pub refusal_of : (s : Bool) (mark rest : List ℕ) → is_refused s mark rest ≡ true → Refusal s mark rest
refusal_of s mark rest e = by (is_among refused_marks mark) s (bytes_eq mark (codes "-->")) (bytes_eq mark (codes "?.")) (starts is_digit rest) refl refl refl refl refl e
  where
    by : (a b c d f : Bool) → is_among refused_marks mark ≡ a → s ≡ b → bytes_eq mark (codes "-->") ≡ c → bytes_eq mark (codes "?.") ≡ d → starts is_digit rest ≡ f → (a || (b && c) || (d && not f)) ≡ true → Refusal s mark rest
    by true b c d f ea eb ec ed ef h = refusal_mark ea
    by false true true d f ea eb ec ed ef h = refusal_close eb ((bytes_eq-Decides mark (codes "-->")).0 ec)
    by false true false true false ea eb ec ed ef h = refusal_chain ((bytes_eq-Decides mark (codes "?.")).0 ed) ef
    by false false c true false ea eb ec ed ef h = refusal_chain ((bytes_eq-Decides mark (codes "?.")).0 ed) ef
    by false true false true true ea eb ec ed ef h = absurd cc
    by false true false false f ea eb ec ed ef h = absurd cc
    by false false c true true ea eb ec ed ef h = absurd cc
    by false false c false f ea eb ec ed ef h = absurd cc

refusal_other : (s : Bool) (mark rest : List ℕ) → Refusal s mark rest → starts (λ u. is_other u && not (u == 47)) mark ≡ true
refusal_other s mark rest (refusal_mark e) = all_among (starts (λ u. is_other u && not (u == 47))) refused_marks mark refused_other e
refusal_other s mark rest (refusal_close e m) = ap (starts (λ u. is_other u && not (u == 47))) m ∙ close_other
refusal_other s mark rest (refusal_chain m e) = ap (starts (λ u. is_other u && not (u == 47))) m ∙ chain_other

refused_family : (g : Goal) (s : Bool) (units rest : List ℕ) → IsRefused s units rest → family_at g units ≡ Some family.Mark
refused_family g s units rest h = ap (family_at g) h.units_are ∙ refused_first g h.mark rest (refusal_other s h.mark rest (refusal_of s h.mark rest h.is_refused))

-- ---- all lexemes

pub spelt_family : (g : Goal) (s : Bool) (x : Lexeme) (units rest : List ℕ) → Spells g s x units rest → family_at g units ≡ lexeme_family x
spelt_family g s (lexeme.Token k.Name) units rest h = name_family g false units rest h
spelt_family g s (lexeme.Token k.Word) units rest h = name_family g true units rest h
spelt_family g s (lexeme.Token k.Number) units rest h = number_family g units h.0 rest h.1
spelt_family g s (lexeme.Token k.WideNumber) units rest h = number_family g units h.0 rest h.1
spelt_family g s (lexeme.Token k.Text) units rest h = text_family g units h.0 rest h.1
spelt_family g s (lexeme.Token k.Pattern) units rest h = pattern_family g units h.1.0 h.1.1 rest h.0 h.1.2
spelt_family g s (lexeme.Token k.Mark) units rest h = mark_family g units rest h
spelt_family g s (lexeme.Token k.Finish) units rest h = ap (family_at g) h.0
spelt_family g s lexeme.Refused units rest h = refused_family g s units rest h

-- ---- none is empty

starts_some : (test : ℕ → Bool) (mark : List ℕ) → starts test mark ≡ true → 0 < length mark
starts_some test [] e = absurd cc
starts_some test (u ∷ mark) e = omega arith

pub mark_some : (g : Goal) (units rest : List ℕ) → (h : IsMark g units rest) → 0 < length h.mark
mark_some g units rest h = starts_some is_other h.mark (all_among (starts is_other) marks h.mark marks_other h.is_mark)

pub refused_some : (s : Bool) (units rest : List ℕ) → (h : IsRefused s units rest) → 0 < length h.mark
refused_some s units rest h = starts_some (λ u. is_other u && not (u == 47)) h.mark (refusal_other s h.mark rest (refusal_of s h.mark rest h.is_refused))

-- ---- marks apart from what is refused

marks_stand : list_all (λ e. not (is_among refused_marks e || bytes_eq e (codes "-->") || bytes_eq e (codes "?."))) marks ≡ true
unfolding marks refused_marks
marks_stand = refl

pub mark_stands : (s : Bool) (mark rest : List ℕ) → is_among marks mark ≡ true → is_refused s mark rest ≡ true → ⊥
mark_stands s mark rest m e =
    let parts = or_three (is_among refused_marks mark) (bytes_eq mark (codes "-->")) (bytes_eq mark (codes "?.")) (all_among (λ e. not (is_among refused_marks e || bytes_eq e (codes "-->") || bytes_eq e (codes "?."))) marks mark marks_stand m) in
    by (refusal_of s mark rest e) parts.0 parts.1 parts.2
  where
    by : Refusal s mark rest → is_among refused_marks mark ≡ false → bytes_eq mark (codes "-->") ≡ false → bytes_eq mark (codes "?.") ≡ false → ⊥
    by (refusal_mark f) a b c = absurd cc
    by (refusal_close f is) a b c = absurd (let yes' = (bytes_eq-Decides mark (codes "-->")).1 is in cc)
    by (refusal_chain is f) a b c = absurd (let yes' = (bytes_eq-Decides mark (codes "?.")).1 is in cc)

-- where a mark may begin, the goal permits it
mark_apart_by : (g : Goal) (u : ℕ) (a b c d : Bool) → (u == 47 && wants_pattern g) ≡ d → cond a family.Name (cond b family.Number (cond c family.Text (cond d family.Pattern family.Mark))) ≡ family.Mark → (u == 47 && wants_pattern g) ≡ false
mark_apart_by g u a b c false ed e = ed
mark_apart_by g u true b c true ed e = absurd cc
mark_apart_by g u false true c true ed e = absurd cc
mark_apart_by g u false false true true ed e = absurd cc
mark_apart_by g u false false false true ed e = absurd cc

mark_apart : (g : Goal) (u : ℕ) → family_of g u ≡ family.Mark → (u == 47 && wants_pattern g) ≡ false
unfolding family_of
mark_apart g u e = mark_apart_by g u (is_name_start u) (is_digit u) (is_quote u) (u == 47 && wants_pattern g) refl e

apart_permits : (g : Goal) (u : ℕ) (us : List ℕ) → (u == 47 && wants_pattern g) ≡ false → permits g (u ∷ us) ≡ true
apart_permits goals.Division u us e = refl
apart_permits goals.Pattern u us e = by (u == 47) e
  where
    by : (x : Bool) → (x && true) ≡ false → not x ≡ true
    by true f = absurd cc
    by false f = refl

family_is : (x y : Family) → Some x ≡ Some y → x ≡ y
family_is x y e = cc

pub permitted : (g : Goal) (mark rest : List ℕ) → is_among marks mark ≡ true → family_at g (mark ++ rest) ≡ Some family.Mark → permits g mark ≡ true
permitted g [] rest m e = absurd (let some = all_among (starts is_other) marks [] marks_other m in cc)
permitted g (u ∷ mark) rest m e = apart_permits g u mark (mark_apart g u (family_is (family_of g u) family.Mark e))
