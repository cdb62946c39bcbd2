-- A longest lexeme is set apart from every other that is spelt at its place.
use Rattle.std.proofs.Common.{◌≡◌, ℕ, ◌≤◌, Bool, List, ◌∷◌, ◌++◌, drop, Option, Some, None, refl, sym, ap, subst, ◌∙◌, arith}
use Rattle.std.specs.Prelude.{◌||◌, ◌==◌, Result, Ok}
use Rattle.js_lexer.specs.Texts.{IsText}
use Rattle.js_lexer.specs.Patterns.{IsPattern}
use Rattle.js_lexer.specs.Numbers.{IsNumeral, max_safe}
use Rattle.js_lexer.specs.Digits.{capped, number_at}
use Rattle.js_lexer.specs.Lexemes.{Spells, IsLongest}
use Rattle.js_lexer.specs.Words.{Found, name_at, numeral_at, mark_at}
use Rattle.js_lexer.specs.Reading.{family_of, first_at, IsBest, Reads}
use Rattle.js_lexer.specs.Tokens.{IsNext}
use Rattle.js_lexer.specs.declared.token.Goal.{Goal}
use Rattle.js_lexer.specs.declared.token.Token.{Token}
use Rattle.js_lexer.specs.declared.token.LexRefusal.{LexRefusal}
use Rattle.js_lexer.specs.declared.token.TokenKind.TheVariants as k
use Rattle.js_lexer.specs.declared.token.Lexeme.{Lexeme}
use Rattle.js_lexer.specs.declared.token.Lexeme.TheVariants as lexeme
use Rattle.js_lexer.specs.declared.lexer.Family.{Family}
use Rattle.js_lexer.specs.declared.lexer.Family.TheVariants as family
use Rattle.js_lexer.proofs.Families.{family_at, spelt_family}
use Rattle.js_lexer.proofs.Bests.{best_finish, best_name, reads_text, reads_pattern}
use Rattle.js_lexer.proofs.NumberBests.{number_only, reads_number}
use Rattle.js_lexer.proofs.MarkBests.{reads_mark}
use Rattle.js_lexer.proofs.Onlys.{best_only, token_only}
use Rattle.js_lexer.proofs.TokenValues.{number_same}

-- the best lexeme of the units
HasBest : Goal → Bool → List ℕ → Type 0
HasBest g s units = (x : Found) × IsBest g s x.0 units x.1

-- what is read where a lexeme is spelt
read_best : (g : Goal) (s : Bool) (units : List ℕ) (r : Option Found) (x : Lexeme) (rest : List ℕ) → Spells g s x units rest → Reads g s units r → HasBest g s units
unfolding HasBest
read_best g s units (Some y) x rest q b = (y, b)
read_best g s units None x rest q b = absurd (b x rest q)

family_is : (g : Goal) (units : List ℕ) (u : ℕ) (us : List ℕ) (f : Family) → units ≡ u ∷ us → family_at g units ≡ Some f → family_of g u ≡ f
family_is g units u us f e h = let same : Some (family_of g u) ≡ Some f = ap (family_at g) (sym e) ∙ h in cc

name_has : (g : Goal) (s : Bool) (units : List ℕ) → family_at g units ≡ Some family.Name → HasBest g s units
unfolding HasBest
name_has g s units f = (name_at units, best_name g s units (name_at units) f refl)

text_has : (g : Goal) (s : Bool) (units value rest : List ℕ) → family_at g units ≡ Some family.Text → IsText units value rest → HasBest g s units
unfolding HasBest
text_has g s units value rest f h = ((lexeme.Token k.Text, rest), reads_text g s units h.quote h.inside (Some (lexeme.Token k.Text, rest)) h.units_are (family_is g units h.quote h.inside family.Text h.units_are f) (refl, (value, h.quoted)))

pattern_has : (g : Goal) (s : Bool) (units body flags rest : List ℕ) → family_at g units ≡ Some family.Pattern → IsPattern units body flags rest → HasBest g s units
unfolding HasBest
pattern_has g s units body flags rest f h =
    ((lexeme.Token k.Pattern, rest), reads_pattern g s units 47 (body ++ 47 ∷ h.behind) (Some (lexeme.Token k.Pattern, rest)) h.units_are (family_is g units 47 (body ++ 47 ∷ h.behind) family.Pattern h.units_are f) (refl, (body, flags, subst (λ (q : List ℕ). IsPattern q body flags rest) h.units_are h)))

spelt_best : (g : Goal) (s : Bool) (x : Lexeme) (units rest : List ℕ) → Spells g s x units rest → HasBest g s units
unfolding HasBest
spelt_best g s (lexeme.Token k.Name) units rest q = name_has g s units (spelt_family g s (lexeme.Token k.Name) units rest q)
spelt_best g s (lexeme.Token k.Word) units rest q = name_has g s units (spelt_family g s (lexeme.Token k.Word) units rest q)
spelt_best g s (lexeme.Token k.Number) units rest q = read_best g s units (numeral_at units) (lexeme.Token k.Number) rest q (reads_number g s units (numeral_at units) (spelt_family g s (lexeme.Token k.Number) units rest q) refl)
spelt_best g s (lexeme.Token k.WideNumber) units rest q = read_best g s units (numeral_at units) (lexeme.Token k.WideNumber) rest q (reads_number g s units (numeral_at units) (spelt_family g s (lexeme.Token k.WideNumber) units rest q) refl)
spelt_best g s (lexeme.Token k.Text) units rest q = text_has g s units q.0 rest (spelt_family g s (lexeme.Token k.Text) units rest q) q.1
spelt_best g s (lexeme.Token k.Pattern) units rest q = pattern_has g s units q.1.0 q.1.1 rest (spelt_family g s (lexeme.Token k.Pattern) units rest q) q.1.2
spelt_best g s (lexeme.Token k.Mark) units rest q = read_best g s units (mark_at s units) (lexeme.Token k.Mark) rest q (reads_mark g s units (mark_at s units) (spelt_family g s (lexeme.Token k.Mark) units rest q) refl)
spelt_best g s (lexeme.Token k.Finish) units rest q = ((lexeme.Token k.Finish, units), best_finish g s units (ap first_at q.0))
spelt_best g s lexeme.Refused units rest q = read_best g s units (mark_at s units) lexeme.Refused rest q (reads_mark g s units (mark_at s units) (spelt_family g s lexeme.Refused units rest q) refl)

-- a longest lexeme is the best
pub longest_best : (g : Goal) (s : Bool) (x : Lexeme) (units rest : List ℕ) → IsLongest g s x units rest → IsBest g s x units rest
unfolding HasBest
longest_best g s x units rest l =
    let best = spelt_best g s x units rest l.spelt in
    let same = best_only g s best.0.0 x units best.0.1 rest best.1 l in
    subst (λ (q : Lexeme). IsBest g s q units rest) (sym same.0) (subst (λ (q : List ℕ). IsBest g s best.0.0 units q) (sym same.1) best.1)

ok_is : (a b : Token) (other : Result Token LexRefusal) → other ≡ Ok a → other ≡ Ok b → a ≡ b
ok_is a b other e f = let same : Ok a ≡ Ok b = sym e ∙ f in cc

-- at most one token is next
pub next_same : (text : List ℕ) (at : ℕ) (goal : Goal) (a b : Token) → IsNext text at goal a → IsNext text at goal b → a ≡ b
next_same text at goal a b h f =
    let best = longest_best goal (at == 0 || b.line_before) (lexeme.Token b.kind) (drop b.start text) (drop b.end text) f.longest in
    ok_is a b (Ok a) refl (token_only text at goal b f best (Ok a) h)

-- a number that isn't wide has one value
pub numeral_same : (units rest behind : List ℕ) (a b : ℕ) → IsNumeral units a rest → IsNumeral units b behind → a ≤ max_safe → a ≡ b
numeral_same units rest behind a b h f low =
    let same : capped a ≡ a = omega arith in
    let read : number_at units ≡ Some (a, rest) = number_only units a rest h ∙ ap (λ q. Some (q, rest)) same in
    sym (number_same units a rest b behind low read f)
