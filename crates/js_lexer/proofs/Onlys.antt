-- There is one next token at most.
use Rattle.std.proofs.Common.{◌≡◌, ℕ, ◌≤◌, Bool, false, List, length, drop, Some, refl, sym, ap, subst, ◌∙◌, arith, inl, inr, length-drop}
use Rattle.std.specs.Prelude.{◌||◌, ◌==◌, Result, Ok, Err}
use Rattle.js_lexer.specs.Trivia.{IsPiece, IsTrivia, trivia_none, trivia_more}
use Rattle.js_lexer.specs.Lexemes.{IsLongest}
use Rattle.js_lexer.specs.Reading.{IsBest}
use Rattle.js_lexer.specs.Tokens.{IsGap, IsNext, IsNone, Next}
use Rattle.js_lexer.specs.declared.token.Goal.{Goal}
use Rattle.js_lexer.specs.declared.token.Token.{Token}
use Rattle.js_lexer.specs.declared.token.LexRefusal.{LexRefusal}
use Rattle.js_lexer.specs.declared.token.TokenKind.{TokenKind}
use Rattle.js_lexer.specs.declared.token.Lexeme.{Lexeme}
use Rattle.js_lexer.specs.declared.token.Lexeme.TheVariants as lexeme
use Rattle.js_lexer.proofs.Pieces.{piece_only}

same_piece : (x y : Bool × List ℕ) → Some x ≡ Some y → (x.0 ≡ y.0) × (x.1 ≡ y.1)
same_piece x y e = (cc, cc)

piece_same : (at_start : Bool) (units : List ℕ) (a b : Bool) (mid other : List ℕ) → IsPiece at_start units a mid → IsPiece at_start units b other → (a ≡ b) × (mid ≡ other)
piece_same at_start units a b mid other p q = same_piece (a, mid) (b, other) (sym (piece_only at_start units a mid p) ∙ piece_only at_start units b other q)

-- what trivia are not followed by more of them
record IsMore (at_start : Bool) (units : List ℕ) (line : Bool) (rest : List ℕ) (here : Bool) (mid : List ℕ) : Type 0 where
  later : Bool
  line_is : line ≡ (here || later)
  more : IsTrivia false mid later rest

trivia_next : (at_start : Bool) (units : List ℕ) (line : Bool) (rest : List ℕ) (here : Bool) (mid : List ℕ) → IsTrivia at_start units line rest → IsPiece at_start units here mid → IsMore at_start units line rest here mid
trivia_next at_start _ _ _ here mid (trivia_none _ units none) p = absurd (none here mid p)
trivia_next at_start _ _ rest here mid (trivia_more _ first later units next _ piece more) p =
    let same = piece_same at_start units first here next mid piece p in
    record { later = later; line_is = ap (λ q. q || later) same.0; more = subst (λ (q : List ℕ). IsTrivia false q later rest) same.1 more }

trivia_last : (at_start : Bool) (units : List ℕ) (line : Bool) (rest : List ℕ) → IsTrivia at_start units line rest → ((here : Bool) (mid : List ℕ) → IsPiece at_start units here mid → ⊥) → (line ≡ false) × (rest ≡ units)
trivia_last at_start _ _ _ (trivia_none _ units none) h = (refl, refl)
trivia_last at_start _ _ _ (trivia_more _ here later units mid _ piece more) h = absurd (h here mid piece)

trivia_same : (at_start : Bool) (units : List ℕ) (a b : Bool) (rest other : List ℕ) → IsTrivia at_start units a rest → IsTrivia at_start units b other → (b ≡ a) × (other ≡ rest)
trivia_same at_start _ _ b _ other (trivia_none _ units none) t = trivia_last at_start units b other t none
trivia_same at_start _ _ b rest other (trivia_more _ here later units mid _ piece more) t =
    let n = trivia_next at_start units b other here mid t piece in
    let s = trivia_same false mid later n.later rest other more n.more in
    (n.line_is ∙ ap (λ q. here || q) s.0, s.1)

-- a place is known by what is behind it
place_same : (text : List ℕ) (a b : ℕ) → a ≤ length text → b ≤ length text → drop a text ≡ drop b text → a ≡ b
place_same text a b la lb e = omega (arith, ap length e, length-drop a text, length-drop b text)

pub gap_same : (text : List ℕ) (at a b : ℕ) (line other : Bool) → IsGap text at a line → IsGap text at b other → (b ≡ a) × (other ≡ line)
gap_same text at a b line other g h =
    let s = trivia_same (at == 0) (drop at text) line other (drop a text) (drop b text) g.trivia h.trivia in
    (place_same text b a h.within g.within s.1, s.0)

-- the best lexeme is the only longest one
pub best_only : (goal : Goal) (s : Bool) (x other : Lexeme) (units rest behind : List ℕ) → IsBest goal s x units rest → IsLongest goal s other units behind → (other ≡ x) × (behind ≡ rest)
best_only goal s x other units rest behind b l = elim (b.others other behind l.spelt) [ inl less ↦ absurd (omega (arith, l.longest x rest b.spelt)) | inr same ↦ same ]

token_same : (t u : Token) → u.kind ≡ t.kind → u.start ≡ t.start → u.end ≡ t.end → u.line_before ≡ t.line_before → u ≡ t
token_same t u a b c d = λ i. record { kind = a i; start = b i; end = c i; line_before = d i }

kind_same : (a b : TokenKind) → lexeme.Token a ≡ lexeme.Token b → a ≡ b
kind_same a b e = cc

-- a next token whose lexeme is the best is the only one
pub token_only : (text : List ℕ) (at : ℕ) (goal : Goal) (t : Token) → IsNext text at goal t → IsBest goal (at == 0 || t.line_before) (lexeme.Token t.kind) (drop t.start text) (drop t.end text) → (other : Result Token LexRefusal) → Next text at goal other → other ≡ Ok t
token_only text at goal t h b (Ok u) n =
    let g = gap_same text at t.start u.start t.line_before u.line_before h.gap n.gap in
    let l : IsLongest goal (at == 0 || t.line_before) (lexeme.Token u.kind) (drop t.start text) (drop u.end text) = subst (λ (q : Bool). IsLongest goal (at == 0 || q) (lexeme.Token u.kind) (drop t.start text) (drop u.end text)) g.1 (subst (λ (q : ℕ). IsLongest goal (at == 0 || u.line_before) (lexeme.Token u.kind) (drop q text) (drop u.end text)) g.0 n.longest) in
    let s = best_only goal (at == 0 || t.line_before) (lexeme.Token t.kind) (lexeme.Token u.kind) (drop t.start text) (drop t.end text) (drop u.end text) b l in
    ap (λ (q : Token). Ok q) (token_same t u (kind_same u.kind t.kind s.0) g.0 (place_same text u.end t.end n.within h.within s.1) g.1)
token_only text at goal t h b (Err r) n =
    let g = gap_same text at t.start r.at t.line_before n.line_end h.gap n.gap in
    let l : IsLongest goal (at == 0 || n.line_end) (lexeme.Token t.kind) (drop r.at text) (drop t.end text) = subst (λ (q : Bool). IsLongest goal (at == 0 || q) (lexeme.Token t.kind) (drop r.at text) (drop t.end text)) (sym g.1) (subst (λ (q : ℕ). IsLongest goal (at == 0 || t.line_before) (lexeme.Token t.kind) (drop q text) (drop t.end text)) (sym g.0) h.longest) in
    absurd (n.none t.kind (drop t.end text) l)

refusal_same : (r s : LexRefusal) → s.at ≡ r.at → s ≡ r
refusal_same r s e = λ i. record { at = e i }

-- a refusal is the only one, and no token is there
pub refusal_only : (text : List ℕ) (at : ℕ) (goal : Goal) (r : LexRefusal) → IsNone text at goal r → (other : Result Token LexRefusal) → Next text at goal other → other ≡ Err r
refusal_only text at goal r h (Ok u) n =
    let g = gap_same text at r.at u.start h.line_end u.line_before h.gap n.gap in
    let l : IsLongest goal (at == 0 || h.line_end) (lexeme.Token u.kind) (drop r.at text) (drop u.end text) = subst (λ (q : Bool). IsLongest goal (at == 0 || q) (lexeme.Token u.kind) (drop r.at text) (drop u.end text)) g.1 (subst (λ (q : ℕ). IsLongest goal (at == 0 || u.line_before) (lexeme.Token u.kind) (drop q text) (drop u.end text)) g.0 n.longest) in
    absurd (h.none u.kind (drop u.end text) l)
refusal_only text at goal r h (Err s) n = let g = gap_same text at r.at s.at h.line_end n.line_end h.gap n.gap in ap (λ (q : LexRefusal). Err q) (refusal_same r s g.0)
