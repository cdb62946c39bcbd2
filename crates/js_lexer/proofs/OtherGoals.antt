-- What is next where the goal is another.
use Rattle.std.proofs.Common.{◌≡◌, ℕ, Bool, true, false, List, [], ◌∷◌, ◌++◌, drop, Some, refl, sym, ap, ◌∙◌, inl, inr}
use Rattle.std.specs.Prelude.{◌⊎◌, ◌||◌, ◌==◌, not}
use Rattle.std.proofs.lemmas.Bool.{eqb-true}
use Rattle.js_units.specs.Characters.{is_letter, is_digit, is_name_start}
use Rattle.js_lexer.specs.Classes.{is_quote}
use Rattle.js_lexer.specs.Patterns.{IsPattern}
use Rattle.js_lexer.specs.Lexemes.{permits, IsMark, Spells, IsLongest}
use Rattle.js_lexer.specs.Reading.{family_of}
use Rattle.js_lexer.specs.Tokens.{IsNext, IsNone}
use Rattle.js_lexer.specs.Slash.{begins_slash}
use Rattle.js_lexer.specs.declared.token.Goal.{Goal}
use Rattle.js_lexer.specs.declared.token.Goal.TheVariants as goals
use Rattle.js_lexer.specs.declared.token.Token.{Token}
use Rattle.js_lexer.specs.declared.token.LexRefusal.{LexRefusal}
use Rattle.js_lexer.specs.declared.token.TokenKind.{TokenKind}
use Rattle.js_lexer.specs.declared.token.TokenKind.TheVariants as k
use Rattle.js_lexer.specs.declared.token.Lexeme.{Lexeme}
use Rattle.js_lexer.specs.declared.token.Lexeme.TheVariants as lexeme
use Rattle.js_lexer.specs.declared.lexer.Family.{Family}
use Rattle.js_lexer.specs.declared.lexer.Family.TheVariants as family
use Rattle.js_lexer.proofs.Families.{family_at, spelt_family}
use Rattle.js_lexer.proofs.Onlys.{gap_same}

-- ---- behind no slash

front_apart : (mark rest : List ℕ) → begins_slash (mark ++ rest) ≡ false → begins_slash mark ≡ false
front_apart [] rest e = refl
front_apart (u ∷ mark) rest e = e

permits_any : (g : Goal) (mark : List ℕ) → begins_slash mark ≡ false → permits g mark ≡ true
permits_any goals.Division mark e = refl
permits_any goals.Pattern mark e = ap not e

mark_other : (goal other : Goal) (units rest : List ℕ) → begins_slash units ≡ false → IsMark goal units rest → IsMark other units rest
mark_other goal other units rest e h = record { mark = h.mark; units_are = h.units_are; is_mark = h.is_mark; is_permitted = permits_any other h.mark (front_apart h.mark rest (ap begins_slash (sym h.units_are) ∙ e)) }

pattern_slash : (units body flags rest : List ℕ) → IsPattern units body flags rest → begins_slash units ≡ true
pattern_slash units body flags rest h = ap begins_slash h.units_are

spells_other : (goal other : Goal) (s : Bool) (x : Lexeme) (units rest : List ℕ) → begins_slash units ≡ false → Spells goal s x units rest → Spells other s x units rest
spells_other goal other s (lexeme.Token k.Name) units rest e q = q
spells_other goal other s (lexeme.Token k.Word) units rest e q = q
spells_other goal other s (lexeme.Token k.Number) units rest e q = q
spells_other goal other s (lexeme.Token k.WideNumber) units rest e q = q
spells_other goal other s (lexeme.Token k.Text) units rest e q = q
spells_other goal other s (lexeme.Token k.Pattern) units rest e q = absurd (let slash = pattern_slash units q.1.0 q.1.1 rest q.1.2 in cc)
spells_other goal other s (lexeme.Token k.Mark) units rest e q = mark_other goal other units rest e q
spells_other goal other s (lexeme.Token k.Finish) units rest e q = q
spells_other goal other s lexeme.Refused units rest e q = q

longest_other : (goal other : Goal) (s : Bool) (x : Lexeme) (units rest : List ℕ) → begins_slash units ≡ false → IsLongest goal s x units rest → IsLongest other s x units rest
longest_other goal other s x units rest e l = record {
  spelt = spells_other goal other s x units rest e l.spelt;
  longest = λ y behind q. l.longest y behind (spells_other other goal s y units behind e q);
}

pub next_other : (text : List ℕ) (at : ℕ) (goal other : Goal) (t : Token) → IsNext text at goal t → begins_slash (drop t.start text) ≡ false → IsNext text at other t
next_other text at goal other t h e = record {
  gap = h.gap;
  order = h.order;
  within = h.within;
  longest = longest_other goal other (at == 0 || t.line_before) (lexeme.Token t.kind) (drop t.start text) (drop t.end text) e h.longest;
}

pub none_other : (text : List ℕ) (at : ℕ) (goal other : Goal) (r : LexRefusal) → IsNone text at goal r → begins_slash (drop r.at text) ≡ false → IsNone text at other r
none_other text at goal other r h e = record {
  line_end = h.line_end;
  gap = h.gap;
  none = λ kind rest l. h.none kind rest (longest_other other goal (at == 0 || h.line_end) (lexeme.Token kind) (drop r.at text) rest e l);
}

-- ---- at a slash

slash_family : Goal → Family
slash_family goals.Division = family.Mark
slash_family goals.Pattern = family.Pattern

slash_first : (g : Goal) (us : List ℕ) → family_at g (47 ∷ us) ≡ Some (slash_family g)
unfolding slash_family family_of is_digit is_name_start is_letter is_quote
slash_first goals.Division us = refl
slash_first goals.Pattern us = refl

slash_at : (g : Goal) (units : List ℕ) → begins_slash units ≡ true → family_at g units ≡ Some (slash_family g)
slash_at g [] e = absurd cc
slash_at g (u ∷ us) e = ap (λ q. family_at g (q ∷ us)) (eqb-true u 47 e) ∙ slash_first g us

slash_spells : (goal : Goal) (s : Bool) (kind : TokenKind) (units rest : List ℕ) → begins_slash units ≡ true → Spells goal s (lexeme.Token kind) units rest → ((kind ≡ k.Mark) × (goal ≡ goals.Division)) ⊎ ((kind ≡ k.Pattern) × (goal ≡ goals.Pattern))
unfolding slash_family
slash_spells goals.Division s k.Mark units rest e q = inl (refl, refl)
slash_spells goals.Pattern s k.Pattern units rest e q = inr (refl, refl)
slash_spells goal s kind units rest e q = absurd (let f = spelt_family goal s (lexeme.Token kind) units rest q in let d = slash_at goal units e in cc)

-- a slash begins a mark where the goal is division, and a pattern where it is a pattern
pub next_slash : (text : List ℕ) (at : ℕ) (goal : Goal) (t : Token) → IsNext text at goal t → begins_slash (drop t.start text) ≡ true → ((t.kind ≡ k.Mark) × (goal ≡ goals.Division)) ⊎ ((t.kind ≡ k.Pattern) × (goal ≡ goals.Pattern))
next_slash text at goal t h e = slash_spells goal (at == 0 || t.line_before) t.kind (drop t.start text) (drop t.end text) e h.longest.spelt

-- ---- at one place

pub none_place : (text : List ℕ) (at : ℕ) (goal other : Goal) (t : Token) (r : LexRefusal) → IsNext text at goal t → IsNone text at other r → r.at ≡ t.start
none_place text at goal other t r h n = (gap_same text at t.start r.at t.line_before n.line_end h.gap n.gap).0

pub next_place : (text : List ℕ) (at : ℕ) (goal other : Goal) (a b : Token) → IsNext text at goal a → IsNext text at other b → (a.start ≡ b.start) × (a.line_before ≡ b.line_before)
next_place text at goal other a b h f = gap_same text at b.start a.start b.line_before a.line_before f.gap h.gap
