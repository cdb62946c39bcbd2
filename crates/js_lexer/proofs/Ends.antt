-- Where lexemes and trivia end in the text.
use Rattle.std.proofs.Common.{◌≡◌, ℕ, ◌-◌, ◌≤◌, ◌<◌, Bool, true, false, List, [], ◌∷◌, ◌++◌, length, take, drop, None, refl, sym, ap, subst, ◌∙◌, arith, inl, inr, length-append, length-drop}
use Rattle.std.specs.Prelude.{◌||◌, ◌==◌}
use Rattle.std.proofs.lemmas.List.{append_assoc, take-append-drop}
use Rattle.std.proofs.lemmas.List.Prefix.{end_rest}
use Rattle.js_lexer.specs.Trivia.{IsTrivia}
use Rattle.js_units.specs.Characters.{is_name_start}
use Rattle.js_lexer.specs.Runs.{starts}
use Rattle.js_lexer.specs.Lexemes.{IsName, Spells, IsLongest}
use Rattle.js_lexer.specs.Reading.{IsBest, LongestToken}
use Rattle.js_lexer.specs.Tokens.{IsGap, IsNext, IsNone}
use Rattle.js_lexer.specs.declared.token.Goal.{Goal}
use Rattle.js_lexer.specs.declared.token.Token.{Token}
use Rattle.js_lexer.specs.declared.token.TokenKind.{TokenKind}
use Rattle.js_lexer.specs.declared.token.TokenKind.TheVariants as k
use Rattle.js_lexer.specs.declared.token.Lexeme.{Lexeme}
use Rattle.js_lexer.specs.declared.token.Lexeme.TheVariants as lexeme
use Rattle.js_lexer.specs.Numbers.{IsNumeral}
use Rattle.js_lexer.specs.Texts.{IsText}
use Rattle.js_lexer.specs.Patterns.{IsPattern}
use Rattle.js_lexer.proofs.Gaps.{IsBehind, past_behind, past_more, behind_both, trivia_behind}
use Rattle.js_lexer.proofs.Closing.{quoted_behind}
use Rattle.js_lexer.proofs.Families.{mark_some}

-- ---- the longest token

pub best_longest : (g : Goal) (s : Bool) (x : Lexeme) (units rest : List ℕ) → IsBest g s x units rest → IsLongest g s x units rest
best_longest g s x units rest h = record {
  spelt = h.spelt;
  longest = λ other behind q. elim (h.others other behind q) [ inl l ↦ omega arith | inr e ↦ omega (arith, ap length e.1) ];
}

pub refused_none : (g : Goal) (s : Bool) (units rest : List ℕ) → IsBest g s lexeme.Refused units rest → (kind : TokenKind) (behind : List ℕ) → IsLongest g s (lexeme.Token kind) units behind → ⊥
refused_none g s units rest h kind behind q = elim (h.others (lexeme.Token kind) behind q.spelt) [
  | inl l ↦ omega (arith, q.longest lexeme.Refused rest h.spelt)
  | inr e ↦ let same = e.0 in absurd cc
]

-- ---- what is behind a lexeme

numeral_behind : (units : List ℕ) (value : ℕ) (rest : List ℕ) → IsNumeral units value rest → IsBehind units rest
numeral_behind units value rest h = elim h.spelt [
  | inl d ↦ record { before = d.digits; units_are = d.units_are }
  | inr x ↦ record { before = 48 ∷ x.x ∷ x.digits; units_are = x.units_are }
]

text_behind : (units value rest : List ℕ) → IsText units value rest → IsBehind units rest
text_behind units value rest h = subst (λ (q : List ℕ). IsBehind q rest) (sym h.units_are) (past_behind (h.quote ∷ h.inside) rest (past_more h.quote h.inside rest (quoted_behind h.quote h.inside value rest h.quoted)))

pattern_behind : (units body flags rest : List ℕ) → IsPattern units body flags rest → IsBehind units rest
pattern_behind units body flags rest h = behind_both units h.behind rest
    (record { before = 47 ∷ body ++ 47 ∷ []; units_are = h.units_are ∙ ap (λ q. 47 ∷ q) (sym (append_assoc body (47 ∷ []) h.behind)) })
    (record { before = flags; units_are = h.flags_are.units_are })

pub spelt_behind : (g : Goal) (s : Bool) (x : Lexeme) (units rest : List ℕ) → Spells g s x units rest → IsBehind units rest
spelt_behind g s (lexeme.Token k.Name) units rest h = record { before = h.name; units_are = h.units_are }
spelt_behind g s (lexeme.Token k.Word) units rest h = record { before = h.name; units_are = h.units_are }
spelt_behind g s (lexeme.Token k.Number) units rest h = numeral_behind units h.0 rest h.1
spelt_behind g s (lexeme.Token k.WideNumber) units rest h = numeral_behind units h.0 rest h.1
spelt_behind g s (lexeme.Token k.Text) units rest h = text_behind units h.0 rest h.1
spelt_behind g s (lexeme.Token k.Pattern) units rest h = pattern_behind units h.1.0 h.1.1 rest h.1.2
spelt_behind g s (lexeme.Token k.Mark) units rest h = record { before = h.mark; units_are = h.units_are }
spelt_behind g s (lexeme.Token k.Finish) units rest h = record { before = []; units_are = h.0 ∙ sym h.1 }
spelt_behind g s lexeme.Refused units rest h = record { before = h.mark; units_are = h.units_are }

-- ---- places in the text

pub behind_le : (text units : List ℕ) → IsBehind text units → length units ≤ length text
behind_le text units h = omega (arith, ap length h.units_are, length-append h.before units)

place_is : (text units : List ℕ) → IsBehind text units → drop (length text - length units) text ≡ units
place_is text units h = end_rest text units h.before h.units_are

from_behind : (text : List ℕ) (at : ℕ) → IsBehind text (drop at text)
from_behind text at = record { before = take at text; units_are = sym (take-append-drop at text) }

-- what was left of the text behind trivia
pub left_behind : (text : List ℕ) (at : ℕ) (line : Bool) (left : List ℕ) → IsTrivia (at == 0) (drop at text) line left → IsBehind text left
left_behind text at line left t = behind_both text (drop at text) left (from_behind text at) (trivia_behind (at == 0) (drop at text) line left t)

pub gap_of : (text : List ℕ) (at : ℕ) (line : Bool) (left : List ℕ) → at ≤ length text → IsTrivia (at == 0) (drop at text) line left → IsGap text at (length text - length left) line
gap_of text at line left h t = record {
  order = omega (arith, length-drop at text, behind_le (drop at text) left (trivia_behind (at == 0) (drop at text) line left t));
  within = omega arith;
  trivia = subst (λ (q : List ℕ). IsTrivia (at == 0) (drop at text) line q) (sym (place_is text left (left_behind text at line left t))) t;
}

pub rest_behind : (text : List ℕ) (at : ℕ) (goal : Goal) (line : Bool) (left : List ℕ) (kind : TokenKind) (rest : List ℕ) → IsTrivia (at == 0) (drop at text) line left → IsBest goal (at == 0 || line) (lexeme.Token kind) left rest → IsBehind text rest
rest_behind text at goal line left kind rest t h = behind_both text left rest (left_behind text at line left t) (spelt_behind goal (at == 0 || line) (lexeme.Token kind) left rest h.spelt)

-- the best lexeme, by its places in the text
pub best_at : (text : List ℕ) (at : ℕ) (goal : Goal) (line : Bool) (left : List ℕ) (kind : TokenKind) (rest : List ℕ) → IsTrivia (at == 0) (drop at text) line left → IsBest goal (at == 0 || line) (lexeme.Token kind) left rest → IsBest goal (at == 0 || line) (lexeme.Token kind) (drop (length text - length left) text) (drop (length text - length rest) text)
best_at text at goal line left kind rest t h =
    let b = rest_behind text at goal line left kind rest t h in
    let l = left_behind text at line left t in
    subst (λ (q : List ℕ). IsBest goal (at == 0 || line) (lexeme.Token kind) (drop (length text - length left) text) q) (sym (place_is text rest b))
    (subst (λ (q : List ℕ). IsBest goal (at == 0 || line) (lexeme.Token kind) q rest) (sym (place_is text left l)) h)

pub next_of : (text : List ℕ) (at : ℕ) (goal : Goal) (line : Bool) (left : List ℕ) (kind : TokenKind) (rest : List ℕ) → at ≤ length text → IsTrivia (at == 0) (drop at text) line left → IsBest goal (at == 0 || line) (lexeme.Token kind) left rest → IsNext text at goal (record { kind = kind; start = length text - length left; end = length text - length rest; line_before = line })
next_of text at goal line left kind rest a t h =
    let b = behind_le text rest (rest_behind text at goal line left kind rest t h) in
    record {
      gap = gap_of text at line left a t;
      order = omega (arith, behind_le left rest (spelt_behind goal (at == 0 || line) (lexeme.Token kind) left rest h.spelt));
      within = omega arith;
      longest = best_longest goal (at == 0 || line) (lexeme.Token kind) (drop (length text - length left) text) (drop (length text - length rest) text) (best_at text at goal line left kind rest t h);
    }

pub none_of : (text : List ℕ) (at : ℕ) (goal : Goal) (line : Bool) (left : List ℕ) → at ≤ length text → IsTrivia (at == 0) (drop at text) line left → LongestToken goal (at == 0 || line) left None → IsNone text at goal (record { at = length text - length left })
none_of text at goal line left a t h = record {
  line_end = line;
  gap = gap_of text at line left a t;
  none = λ kind rest q. h kind rest (subst (λ (w : List ℕ). IsLongest goal (at == 0 || line) (lexeme.Token kind) w rest) (place_is text left (left_behind text at line left t)) q);
}

-- ---- a token that isn't the end has a unit

starts_some : (test : ℕ → Bool) (units : List ℕ) → starts test units ≡ true → 0 < length units
starts_some test [] e = absurd cc
starts_some test (u ∷ units) e = omega arith

name_shorter : (reserved : Bool) (units rest : List ℕ) → IsName reserved units rest → length rest < length units
name_shorter reserved units rest h = omega (arith, ap length h.units_are, length-append h.name rest, starts_some is_name_start h.name h.begins)

numeral_shorter : (units : List ℕ) (value : ℕ) (rest : List ℕ) → IsNumeral units value rest → length rest < length units
numeral_shorter units value rest h = elim h.spelt [
  | inl d ↦ omega (arith, ap length d.units_are, length-append d.digits rest, d.some)
  | inr x ↦ omega (arith, ap length x.units_are, length-append x.digits rest)
]

text_shorter : (units value rest : List ℕ) → IsText units value rest → length rest < length units
text_shorter units value rest h = omega (arith, ap length h.units_are, behind_le h.inside rest (quoted_behind h.quote h.inside value rest h.quoted))

pattern_shorter : (units body flags rest : List ℕ) → IsPattern units body flags rest → length rest < length units
pattern_shorter units body flags rest h = omega (arith, ap length h.units_are, length-append body (47 ∷ h.behind), ap length h.flags_are.units_are, length-append flags rest)

spelt_shorter : (g : Goal) (s : Bool) (kind : TokenKind) (units rest : List ℕ) → Spells g s (lexeme.Token kind) units rest → (kind ≡ k.Finish → ⊥) → length rest < length units
spelt_shorter g s k.Name units rest h some = name_shorter false units rest h
spelt_shorter g s k.Word units rest h some = name_shorter true units rest h
spelt_shorter g s k.Number units rest h some = numeral_shorter units h.0 rest h.1
spelt_shorter g s k.WideNumber units rest h some = numeral_shorter units h.0 rest h.1
spelt_shorter g s k.Text units rest h some = text_shorter units h.0 rest h.1
spelt_shorter g s k.Pattern units rest h some = pattern_shorter units h.1.0 h.1.1 rest h.1.2
spelt_shorter g s k.Mark units rest h some = omega (arith, ap length h.units_are, length-append h.mark rest, mark_some g units rest h)
spelt_shorter g s k.Finish units rest h some = absurd (some refl)

pub advances_of : (text : List ℕ) (at : ℕ) (goal : Goal) (t : Token) → IsNext text at goal t → (t.kind ≡ k.Finish → ⊥) → t.start < t.end
advances_of text at goal t h some = omega (arith, spelt_shorter goal (at == 0 || t.line_before) t.kind (drop t.start text) (drop t.end text) h.longest.spelt some, length-drop t.start text, length-drop t.end text)

pub finish_of : (text : List ℕ) (at : ℕ) (goal : Goal) (t : Token) → IsNext text at goal t → t.kind ≡ k.Finish → (t.start ≡ length text) × (t.end ≡ length text)
finish_of text at goal t h e =
    let s : Spells goal (at == 0 || t.line_before) (lexeme.Token k.Finish) (drop t.start text) (drop t.end text) = subst (λ (q : TokenKind). Spells goal (at == 0 || t.line_before) (lexeme.Token q) (drop t.start text) (drop t.end text)) e h.longest.spelt in
    let low = h.order in
    let high = h.within in
    (omega (arith, ap length s.0, length-drop t.start text), omega (arith, ap length s.1, length-drop t.end text))
