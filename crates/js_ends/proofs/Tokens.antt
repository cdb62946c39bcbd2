-- The tokens of a text stand at rising places, each before the end.
use Rattle.std.proofs.Common.{ℕ, ◌-◌, ◌≡◌, ◌≤◌, ◌<◌, Bool, true, false, cond, nat_lt, List, [], ◌∷◌, length, take, drop, subst, arith}
use Rattle.std.proofs.lemmas.List.{length-drop, length-take-le}
use Rattle.js_units.specs.Utf8.{is_surrogate, unit_size, utf8_size}
use Rattle.js_grammar.specs.declared.token.Token.{Token}
use Rattle.js_grammar.specs.declared.token.TokenKind.{TokenKind}
use Rattle.js_lexer.specs.declared.token.Goal.{Goal}
use Rattle.js_lexer.specs.declared.token.Token.{Token as Lexed}
use Rattle.js_lexer.specs.declared.token.TokenKind.{TokenKind as LexedKind}
use Rattle.js_lexer.specs.declared.token.TokenKind.TheVariants as lexed
use Rattle.js_lexer.proofs.Ends.{advances_of}
use Rattle.js_parser.specs.Places.{byte_at}
use Rattle.js_parser.specs.Tokens.{IsKindBy, IsToken}
use Rattle.js_parser.specs.Spelling.{IsTokens, tokens_none, tokens_more}
use Rattle.js_parser.proofs.Offsets.{offset_on, offset_within}
use Rattle.js_ends.specs.Places.{place, AreRising}

-- ---- a unit has a byte at least

either_some : (b : Bool) (m n : ℕ) → 0 < m → 0 < n → 0 < cond b m n
either_some true m n h k = h
either_some false m n h k = k

unit_some : (u : ℕ) → 0 < unit_size u
unit_some u =
    either_some (nat_lt u 128) _ _ (omega arith) (either_some (nat_lt u 2048) _ _ (omega arith) (either_some (is_surrogate u) _ _ (omega arith) (omega arith)))

size_least : (us : List ℕ) → length us ≤ utf8_size us
size_least [] = omega arith
size_least (u ∷ us) = omega (arith, unit_some u, size_least us)

-- ---- places of units, as bytes

offset_later : (text : List ℕ) (from to : ℕ) → from ≤ to → byte_at text from ≤ byte_at text to
offset_later text from to l = omega (arith, offset_on text from to l)

offset_rises : (text : List ℕ) (from to : ℕ) → from < to → to ≤ length text → byte_at text from < byte_at text to
offset_rises text from to l m =
    let some : to - from ≤ length (drop from text) = omega (arith, length-drop from text, l, m) in
    omega (arith, l, offset_on text from to (omega (arith, l)), size_least (take (to - from) (drop from text)), length-take-le (to - from) (drop from text) some)

-- ---- tokens

no_finish : (text : List ℕ) (t : Lexed) (kind : TokenKind) (l : LexedKind) → IsKindBy l text t kind → l ≡ lexed.Finish → ⊥
no_finish text t kind l h e = subst (λ (l : LexedKind). IsKindBy l text t kind) e h

-- the first of the tokens from a place on stands there or further on
record Rise (text : List ℕ) (at : ℕ) (tokens : List Token) : Type 0 where
  further : byte_at text at ≤ place (utf8_size text) tokens
  rising : AreRising (utf8_size text) tokens

one_more : (text : List ℕ) (at : ℕ) (goal : Goal) (t : Lexed) (token : Token) (ts : List Token) →
    IsToken text at goal t token → Rise text t.end ts → Rise text at (token ∷ ts)
one_more text at goal t token ts h r =
    let advances : t.start < t.end = advances_of text at goal t h.next (no_finish text t token.kind t.kind h.kind) in
    record {
      further = omega (arith, h.start, offset_later text at t.start h.next.gap.order);
      rising = (omega (arith, h.start, offset_rises text t.start t.end advances h.next.within, r.further), r.rising);
    }

rise : (text : List ℕ) (at : ℕ) (tokens : List Token) → IsTokens text at tokens → Rise text at tokens
rise text _ _ (tokens_none at goal t h f) = record { further = offset_within text at; rising = tt }
rise text _ _ (tokens_more at goal t token ts h more) = one_more text at goal t token ts h (rise text t.end ts more)

pub tokens_rise : (text : List ℕ) (at : ℕ) (tokens : List Token) → IsTokens text at tokens →
    AreRising (utf8_size text) tokens
tokens_rise text at tokens h = (rise text at tokens h).rising
