-- `try` is read.
use Rattle.std.proofs.Common.{◌≡◌, ℕ, List, Option, Some, None, refl}
use Rattle.js_ast.specs.declared.statement.Stmt.{Stmt}
use Rattle.js_ast.specs.declared.statement.Stmt.TheVariants as stmt
use Rattle.js_ast.specs.declared.parts.Identifier.{Identifier}
use Rattle.js_ast.specs.declared.parts.Catch.{Catch}
use Rattle.js_grammar.specs.declared.token.Token.{Token}
use Rattle.js_grammar.specs.declared.token.TokenKind.{TokenKind}
use Rattle.js_grammar.specs.declared.token.TokenKind.TheVariants as k
use Rattle.js_grammar.specs.declared.token.Word.TheVariants as word
use Rattle.js_grammar.specs.Phrases.{Begins, IsWord, IsIdentifier, Context}
use Rattle.js_reading.specs.declared.frame.Frame.{Frame}
use Rattle.js_reading.specs.declared.frame.Braces.TheVariants as list
use Rattle.js_reading.specs.declared.mode.Mode.{Mode}
use Rattle.js_reading.specs.declared.mode.Mode.TheVariants as mode
use Rattle.js_reading.specs.declared.mode.Heading.TheVariants as heading
use Rattle.js_reading.specs.declared.mode.Trying.TheVariants as trying
use Rattle.js_reading.specs.declared.mode.Parser.{Parser}
use Rattle.js_reading.specs.Operands.{at, word_of}
use Rattle.js_reading.specs.Statements.{over, after, caught_by}
use Rattle.js_laws.proofs.Steps.{Leads, ◌⟫◌, take, alike}
use Rattle.js_laws.proofs.ReadParts.{Stands, BodyReads, Opens, begins_inner, InnerReads, CatchReads, FinallyReads, OptionalFinallyReads}
use Rattle.js_laws.proofs.Ends.{no_after}
use Rattle.js_laws.proofs.Statements.{take_open}

body_of_try : (P : ℕ → Type 0) (d : ℕ) (c : Context) (ts : List Token) (site : ℕ) (from : List Token) (body : List Stmt) (mid : List Token) → IsWord ts word.Try site from → BodyReads P d c from body mid → (ks : List Frame) → Stands c d ks → P d → (m : Mode) (above : List Frame) → Opens (begins_inner ks) ts (at m above)
    → Leads P ts (at m above) mid (at (mode.Trying (trying.Tried site body)) ks)
body_of_try P d c ts site from body mid h i ks s n m above o =
    take_open h.1 (begins_inner ks) m above (at (mode.Heading (heading.Braces (list.Try site))) ks) o refl n s.depth_is
    ⟫ i (mode.Heading (heading.Braces (list.Try site))) ks (list.Try site) ks (at (mode.Trying (trying.Tried site body)) ks) (λ t left e g. rw g refl) s.context_is s.depth_is n refl s.depth_is

pub catch_all_reads : (P : ℕ → Type 0) (d : ℕ) (c : Context) (ts : List Token) (at' : ℕ) (from : List Token) (body : List Stmt) (rest : List Token) → IsWord ts word.Catch at' from → BodyReads P d c from body rest → CatchReads P d c ts (record { name = None; body = body }) rest
catch_all_reads P d c ts at' from body rest h i site first ks s n =
    take h.1 {m = mode.Trying (trying.Tried site first)} {ks = ks} {q = at (mode.Trying (trying.CatchHead site first)) ks} refl n s.depth_is
    ⟫ i (mode.Trying (trying.CatchHead site first)) ks (list.Catch site first None) ks (at (mode.Trying (trying.Caught site first (record { name = None; body = body }))) ks) (λ t left e g. rw g refl) s.context_is s.depth_is n refl s.depth_is

pub catch_name_reads : (P : ℕ → Type 0) (d : ℕ) (c : Context) (ts : List Token) (at' : ℕ) (from : List Token) (opens : ℕ) (inside : List Token) (name : Identifier) (close : List Token) (at'' : ℕ) (block : List Token) (body : List Stmt) (rest : List Token)
    → IsWord ts word.Catch at' from → Begins from k.OpenRound opens inside → IsIdentifier inside name close → Begins close k.CloseRound at'' block → BodyReads P d c block body rest → CatchReads P d c ts (record { name = Some name; body = body }) rest
catch_name_reads P d c ts at' from opens inside name close at'' block body rest h h1 h2 h3 i site first ks s n =
    take h.1 {m = mode.Trying (trying.Tried site first)} {ks = ks} {q = at (mode.Trying (trying.CatchHead site first)) ks} refl n s.depth_is
    ⟫ take h1 {m = mode.Trying (trying.CatchHead site first)} {ks = ks} {q = at (mode.Trying (trying.CatchOpen site first)) ks} refl n s.depth_is
    ⟫ take h2.begins {m = mode.Trying (trying.CatchOpen site first)} {ks = ks} {q = at (mode.Trying (trying.CatchName site first name)) ks} refl n s.depth_is
    ⟫ take h3 {m = mode.Trying (trying.CatchName site first name)} {ks = ks} {q = at (mode.Heading (heading.Braces (list.Catch site first (Some name)))) ks} refl n s.depth_is
    ⟫ i (mode.Heading (heading.Braces (list.Catch site first (Some name)))) ks (list.Catch site first (Some name)) ks (at (mode.Trying (trying.Caught site first (record { name = Some name; body = body }))) ks) (λ t left e g. rw g refl) s.context_is s.depth_is n refl s.depth_is

pub finally_body_reads : (P : ℕ → Type 0) (d : ℕ) (c : Context) (ts : List Token) (at' : ℕ) (from : List Token) (body : List Stmt) (rest : List Token) → IsWord ts word.Finally at' from → BodyReads P d c from body rest → FinallyReads P d c ts body rest
finally_body_reads P d c ts at' from body rest h i m site first caught ks st s n =
    take h.1 {m = m} {ks = ks} {q = at (mode.Heading (heading.Braces (list.Finally site first caught))) ks} (st h.1.line at' h.0) n s.depth_is
    ⟫ i (mode.Heading (heading.Braces (list.Finally site first caught))) ks (list.Finally site first caught) ks (over (stmt.Try site first caught (Some body)) ks) (λ t left e g. rw g refl) s.context_is s.depth_is n refl s.depth_is

caught_step : (site' : ℕ) (body : List Stmt) (h : Catch (List Stmt)) (site : ℕ) (ks : List Frame) (kind : TokenKind) (r : Parser) → after site (stmt.Try site' body (Some h) None) ks kind ≡ Some r → caught_by site' body h site ks kind (word_of kind) ≡ Some r
caught_step site' body h site ks (k.Word word.Finally units) r j = absurd (no_after site (stmt.Try site' body (Some h) None) ks r (k.Word word.Finally units) refl j)
caught_step site' body h site ks (k.Word _ units) r j = j
caught_step site' body h site ks _ r j = j

pub finally_none_reads : (P : ℕ → Type 0) (d : ℕ) (c : Context) (ts : List Token) → OptionalFinallyReads P d c ts None ts
finally_none_reads P d c ts site body h ks s n = alike (record {
  steps = λ t left e q z. caught_step site body h t.start ks t.kind q z;
  ends = λ e z j. j;
})

pub finally_some_reads : (P : ℕ → Type 0) (d : ℕ) (c : Context) (ts : List Token) (body : List Stmt) (rest : List Token) → FinallyReads P d c ts body rest → OptionalFinallyReads P d c ts (Some body) rest
finally_some_reads P d c ts body rest i site first h ks s n = i (mode.Trying (trying.Caught site first h)) site first (Some h) ks (λ line site' units. refl) s n

pub try_catch_reads : (P : ℕ → Type 0) (d : ℕ) (c : Context) (ts : List Token) (site : ℕ) (from : List Token) (body : List Stmt) (mid : List Token) (h : Catch (List Stmt)) (behind : List Token) (last : Option (List Stmt)) (rest : List Token)
    → IsWord ts word.Try site from → BodyReads P d c from body mid → CatchReads P d c mid h behind → OptionalFinallyReads P d c behind last rest → InnerReads P d c ts (stmt.Try site body (Some h) last) rest
try_catch_reads P d c ts site from body mid h behind last rest w i j l ks s n m above o =
    body_of_try P d c ts site from body mid w i ks s n m above o ⟫ j site body ks s n ⟫ l site body h ks s n

pub try_finally_reads : (P : ℕ → Type 0) (d : ℕ) (c : Context) (ts : List Token) (site : ℕ) (from : List Token) (body : List Stmt) (mid : List Token) (last : List Stmt) (rest : List Token)
    → IsWord ts word.Try site from → BodyReads P d c from body mid → FinallyReads P d c mid last rest → InnerReads P d c ts (stmt.Try site body None (Some last)) rest
try_finally_reads P d c ts site from body mid last rest w i j ks s n m above o =
    body_of_try P d c ts site from body mid w i ks s n m above o ⟫ j (mode.Trying (trying.Tried site body)) site body None ks (λ line site' units. refl) s n
