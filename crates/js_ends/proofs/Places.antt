-- Tokens whose places rise: what stands between the first token and the rest.
use Rattle.std.proofs.Common.{ℕ, ◌≡◌, ◌≤◌, ◌<◌, inl, inr, false, List, [], ◌∷◌, Option, refl, sym, subst, arith}
use Rattle.js_ast.specs.declared.operators.DeclarationKind.{DeclarationKind}
use Rattle.js_ast.specs.declared.parts.Identifier.{Identifier}
use Rattle.js_ast.specs.declared.parts.Key.{Key}
use Rattle.js_grammar.specs.declared.token.Token.{Token}
use Rattle.js_grammar.specs.declared.token.TokenKind.{TokenKind}
use Rattle.js_grammar.specs.declared.token.TokenKind.TheVariants as k
use Rattle.js_grammar.specs.declared.token.Word.{Word}
use Rattle.js_grammar.specs.Phrases.{Begins, Beside, IsWord, IsIdentifier, IsIdentifierName, start_of, Tail, IsEnd, IsDoEnd}
use Rattle.js_grammar.specs.Grammar.{IsNames, names_none, names_last, names_more, IsParameters, IsArrowParameters, parameters_one, parameters_none, parameters_round, IsOptionalName, name_none, name_some, IsDeclares, declares_let, declares_const, IsKey, key_word, key_text, key_number}
use Rattle.js_ends.specs.Places.{place, AreRising}
use Rattle.js_ends.proofs.Binds.{Within}
use Rattle.js_ends.proofs.Blocks.{NameIn}

-- what is left rises too, and something stands between the two places
pub record Between (z : ℕ) (ts rest : List Token) (A : ℕ → ℕ → Type 0) : Type 0 where
  pub rising : AreRising z rest
  pub le : place z ts ≤ place z rest
  pub found : A (place z ts) (place z rest)

-- a token and the rest
pub record Begun (z : ℕ) (ts : List Token) (site : ℕ) (rest : List Token) : Type 0 where
  pub rising : AreRising z rest
  pub is : place z ts ≡ site
  pub first : start_of ts ≡ site
  pub less : site < place z rest

pub begun : (z : ℕ) (ts : List Token) (kind : TokenKind) (site : ℕ) (rest : List Token) → Begins ts kind site rest →
    AreRising z ts → Begun z ts site rest
begun z ts kind site rest b r =
    subst (λ ts. AreRising z ts → Begun z ts site rest) (sym b.begins) (λ r. record { rising = r.1; is = refl; first = refl; less = r.0 }) r

pub beside : (z : ℕ) (ts : List Token) (kind : TokenKind) (site : ℕ) (rest : List Token) → Beside ts kind site rest →
    AreRising z ts → Begun z ts site rest
beside z ts kind site rest b r = begun z ts kind site rest (record { line = false; begins = b }) r

pub worded : (z : ℕ) (ts : List Token) (w : Word) (site : ℕ) (rest : List Token) → IsWord ts w site rest → AreRising z ts →
    Begun z ts site rest
worded z ts w site rest b r = begun z ts (k.Word w b.0) site rest b.1 r

pub named : (z : ℕ) (ts : List Token) (n : Identifier) (rest : List Token) → IsIdentifier ts n rest → AreRising z ts →
    Begun z ts n.site rest
named z ts n rest b r = begun z ts (k.Name n.name) n.site rest b.begins r

pub spelled : (z : ℕ) (ts : List Token) (name : List ℕ) (site : ℕ) (rest : List Token) →
    IsIdentifierName ts name site rest → AreRising z ts → Begun z ts site rest
spelled z ts name site rest (inl b) r = begun z ts (k.Name name) site rest b r
spelled z ts name site rest (inr w) r = begun z ts (k.Word w.0 name) site rest w.1 r

-- only the order of the places
pub record Passes (z : ℕ) (ts rest : List Token) : Type 0 where
  pub rising : AreRising z rest
  pub le : place z ts ≤ place z rest

one : {z site : ℕ} {ts rest : List Token} → Begun z ts site rest → Passes z ts rest
one b = record { rising = b.rising; le = omega (arith, b.is, b.less) }

pub names_pass : (z : ℕ) (ts : List Token) (ns : List Identifier) (rest : List Token) → IsNames ts ns rest →
    AreRising z ts → Passes z ts rest
names_pass z _ _ _ (names_none ts close rest h) r = one (begun z ts k.CloseRound close rest h r)
names_pass z _ _ _ (names_last ts after n close rest h i) r =
    let a = named z ts n after h r in
    let b = begun z after k.CloseRound close rest i a.rising in
    record { rising = b.rising; le = omega (arith, a.is, a.less, b.is, b.less) }
names_pass z _ _ _ (names_more ts comma after n ns at rest h i j) r =
    let a = named z ts n comma h r in
    let b = begun z comma k.Comma at after i a.rising in
    let p = names_pass z after ns rest j b.rising in
    record { rising = p.rising; le = omega (arith, a.is, a.less, b.is, b.less, p.le) }

-- behind at least one token
pub record Leaves (z : ℕ) (ts rest : List Token) : Type 0 where
  pub rising : AreRising z rest
  pub first : start_of ts ≡ place z ts
  pub less : place z ts < place z rest

pub parameters_leave : (z : ℕ) (ts : List Token) (ns : List Identifier) (rest : List Token) → IsParameters ts ns rest →
    AreRising z ts → Leaves z ts rest
parameters_leave z ts ns rest h r =
    let a = begun z ts k.OpenRound h.0 h.1 h.2 r in
    let p = names_pass z h.1 ns rest h.3 a.rising in
    record { rising = p.rising; first = omega (arith, a.is, a.first); less = omega (arith, a.is, a.less, p.le) }

pub arrow_leaves : (P : ℕ → Type 0) (z d : ℕ) (ts : List Token) (ns : List Identifier) (rest : List Token) →
    IsArrowParameters P d ts ns rest → AreRising z ts → Leaves z ts rest
arrow_leaves P z d _ _ _ (parameters_one ts n rest h) r =
    let a = named z ts n rest h r in
    record { rising = a.rising; first = omega (arith, a.is, a.first); less = omega (arith, a.is, a.less) }
arrow_leaves P z d _ _ _ (parameters_none ts rest h) r = parameters_leave z ts [] rest h r
arrow_leaves P z d _ _ _ (parameters_round ts n ns rest p h) r = parameters_leave z ts (n ∷ ns) rest h r

pub optional_name : (z : ℕ) (ts : List Token) (o : Option Identifier) (rest : List Token) → IsOptionalName ts o rest →
    AreRising z ts → Between z ts rest (λ lo hi. NameIn (Within lo hi) o)
optional_name z _ _ _ (name_none ts) r = record { rising = r; le = omega arith; found = tt }
optional_name z _ _ _ (name_some ts n rest h) r =
    let a = named z ts n rest h r in
    record { rising = a.rising; le = omega (arith, a.is, a.less); found = (omega (arith, a.is), a.less) }

pub declares_pass : (z : ℕ) (ts : List Token) (o : DeclarationKind) (site : ℕ) (rest : List Token) →
    IsDeclares ts o site rest → AreRising z ts → Begun z ts site rest
declares_pass z _ _ _ _ (declares_let ts site rest h) r = worded z ts _ site rest h r
declares_pass z _ _ _ _ (declares_const ts site rest h) r = worded z ts _ site rest h r

pub key_pass : (z : ℕ) (ts : List Token) (x : Key) (site : ℕ) (rest : List Token) → IsKey ts x site rest → AreRising z ts →
    Begun z ts site rest
key_pass z _ _ _ _ (key_word ts name start rest h p) r = spelled z ts name start rest h r
key_pass z _ _ _ _ (key_text ts text start rest h p) r = begun z ts (k.Text text) start rest h r
key_pass z _ _ _ _ (key_number ts n start rest h) r = begun z ts (k.Number n) start rest h r

same_place : (z : ℕ) (ts rest : List Token) → ts ≡ rest → AreRising z ts → Passes z ts rest
same_place z ts rest e r = subst (λ rest. Passes z ts rest) e (record { rising = r; le = omega arith })

pub end_pass : (z : ℕ) (tail : Tail) (ts rest : List Token) → IsEnd tail ts rest → AreRising z ts → Passes z ts rest
end_pass z tail ts rest (inl b) r = one (begun z ts k.Semicolon b.0 rest b.1 r)
end_pass z tail ts rest (inr b) r = same_place z ts rest b.0 r

pub do_end_pass : (z : ℕ) (ts rest : List Token) → IsDoEnd ts rest → AreRising z ts → Passes z ts rest
do_end_pass z ts rest (inl b) r = one (begun z ts k.Semicolon b.0 rest b.1 r)
do_end_pass z ts rest (inr b) r = same_place z ts rest b.0 r
