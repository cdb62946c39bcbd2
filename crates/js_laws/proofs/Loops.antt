-- Loops are read.
use Rattle.std.proofs.Common.{◌≡◌, ℕ, suc, Bool, true, false, List, ◌∷◌, Option, Some, None, refl, ap, ◌∙◌, arith, inr}
use Rattle.js_ast.specs.declared.expression.Expr.{Expr}
use Rattle.js_ast.specs.declared.statement.Stmt.{Stmt}
use Rattle.js_ast.specs.declared.statement.Stmt.TheVariants as stmt
use Rattle.js_ast.specs.declared.operators.DeclarationKind.{DeclarationKind}
use Rattle.js_ast.specs.declared.parts.Identifier.{Identifier}
use Rattle.js_ast.specs.declared.parts.LoopHead.{LoopHead}
use Rattle.js_ast.specs.declared.parts.LoopHead.TheVariants as head
use Rattle.js_grammar.specs.declared.token.Token.{Token}
use Rattle.js_grammar.specs.declared.token.TokenKind.{TokenKind}
use Rattle.js_grammar.specs.declared.token.TokenKind.TheVariants as k
use Rattle.js_grammar.specs.declared.token.Word.TheVariants as word
use Rattle.js_grammar.specs.Phrases.{Begins, IsWord, IsIdentifier, start_of, is_of, Tail, IsDoEnd, Context, looping}
use Rattle.js_grammar.specs.Grammar.{IsDeclares}
use Rattle.js_reading.specs.declared.frame.Frame.{Frame}
use Rattle.js_reading.specs.declared.frame.Frame.TheVariants as frame
use Rattle.js_reading.specs.declared.frame.Part.{Part}
use Rattle.js_reading.specs.declared.frame.Part.TheVariants as part
use Rattle.js_reading.specs.declared.frame.Below.{Below}
use Rattle.js_reading.specs.declared.frame.Below.TheVariants as below
use Rattle.js_reading.specs.declared.frame.Place.TheVariants as place
use Rattle.js_reading.specs.declared.mode.Mode.TheVariants as mode
use Rattle.js_reading.specs.declared.mode.Ending.TheVariants as ending
use Rattle.js_reading.specs.declared.mode.Opening.TheVariants as opening
use Rattle.js_reading.specs.declared.mode.Parser.{Parser}
use Rattle.js_reading.specs.Frames.{context, begun, within_below}
use Rattle.js_reading.specs.Operands.{at, wants, value_of, want}
use Rattle.js_reading.specs.Statements.{do_over, for_head_on, named_on}
use Rattle.js_laws.proofs.Steps.{◌⟫◌, take, ending_at, alike}
use Rattle.js_laws.proofs.ReadParts.{Stands, part_stands, ends_loose, on_loose, AssignReads, begins_inner, InnerReads, BelowReads, RoundReads, HeadReads, OptionalReads}
use Rattle.js_laws.proofs.Ends.{over_below, do_ends}
use Rattle.js_laws.proofs.Statements.{take_open}
use Rattle.js_laws.proofs.Declarations.{name_due, declaring, loop_declares}

loop_stands : {c : Context} {d : ℕ} {ks : List Frame} (b : Below) → within_below b (context ks) ≡ looping (context ks) → begun (frame.Below b) ≡ 0 → Stands c d ks → Stands (looping c) (suc d) (frame.Below b ∷ ks)
loop_stands b w e s = record { context_is = w ∙ ap looping s.context_is; depth_is = omega (arith, e, s.depth_is) }

-- ---- `while` and `do`

pub while_reads : (P : ℕ → Type 0) (d : ℕ) (c : Context) (ts : List Token) (site : ℕ) (from : List Token) (e : Expr) (mid : List Token) (s : Stmt) (rest : List Token) → IsWord ts word.While site from → RoundReads P d c from e mid → BelowReads P d (looping c) mid s rest → InnerReads P d c ts (stmt.While site e s) rest
while_reads P d c ts site from e mid s rest h i j ks st n m above o =
    let p : Part = part.While site in
    let b : Below = below.While site e in
    take_open h.1 (begins_inner ks) m above (at (mode.Opening opening.Test) (frame.Part p ∷ ks)) o refl n (omega (arith, st.depth_is))
    ⟫ i p ks (at mode.Below (frame.Below b ∷ ks)) (part_stands p refl st) (omega (arith, st.depth_is)) n refl (omega (arith, st.depth_is))
    ⟫ j b ks (loop_stands b refl refl st) refl
    ⟫ over_below P rest s b ks refl

pub do_reads : (P : ℕ → Type 0) (d : ℕ) (c : Context) (ts : List Token) (site : ℕ) (from : List Token) (s : Stmt) (mid : List Token) (test_site : ℕ) (test : List Token) (e : Expr) (end rest : List Token)
    → IsWord ts word.Do site from → BelowReads P d (looping c) from s mid → IsWord mid word.While test_site test → RoundReads P d c test e end → IsDoEnd end rest → InnerReads P d c ts (stmt.Do site s test_site e) rest
do_reads P d c ts site from s mid test_site test e end rest h i h' j l ks st n m above o =
    let b : Below = below.Do site in
    let p : Part = part.Do site s test_site in
    take_open h.1 (begins_inner ks) m above (at mode.Below (frame.Below b ∷ ks)) o refl n (omega (arith, st.depth_is))
    ⟫ i b ks (loop_stands b refl refl st) refl
    ⟫ take h'.1 {m = mode.Ending (ending.Over s)} {ks = frame.Below b ∷ ks} {q = at (mode.Opening opening.Test) (frame.Part p ∷ ks)} refl n (omega (arith, st.depth_is))
    ⟫ j p ks (do_over site s test_site e ks) (part_stands p refl st) (omega (arith, st.depth_is)) n refl st.depth_is
    ⟫ do_ends P end rest (stmt.Do site s test_site e) ks d st.depth_is n l

-- ---- heads of `for`

pub head_none_reads : (P : ℕ → Type 0) (d : ℕ) (c : Context) (ts : List Token) → HeadReads P d c ts head.Nothing ts
head_none_reads P d c ts site ks s n at' next h = take h {m = mode.Opening (opening.ForHead site)} {ks = ks} {q = wants (frame.Part (part.ForTest site head.Nothing)) ks} refl n (omega (arith, s.depth_is))

head_opens : (site at' : ℕ) (ks : List Frame) (kind : TokenKind) (q : Parser) → want at' (frame.Part (part.ForFirst site) ∷ ks) kind ≡ Some q → for_head_on site at' ks kind ≡ Some q
head_opens site at' ks k.Semicolon q h = absurd cc
head_opens site at' ks (k.Word word.Let units) q h = absurd cc
head_opens site at' ks (k.Word word.Const units) q h = absurd cc
head_opens site at' ks (k.Word _ units) q h = h
head_opens site at' ks _ q h = h

pub head_value_reads : (P : ℕ → Type 0) (d : ℕ) (c : Context) (ts : List Token) (e : Expr) (t : Tail) (rest : List Token) → AssignReads P d c ts e t rest → HeadReads P d c ts (head.Value e) rest
head_value_reads P d c ts e t rest i site ks s n at' next h =
    let p : Part = part.ForFirst site in
    let r = i (frame.Part p ∷ ks) (part_stands p refl s) refl refl (ends_loose t h refl) in
    alike (record {
      steps = λ tok left e' q z. head_opens site tok.start ks tok.kind q z;
      ends = λ e' body z. absurd cc;
    })
    ⟫ r.leads
    ⟫ ending_at (take h {m = mode.Operand (start_of ts) r.x} {ks = frame.Part p ∷ ks} {q = wants (frame.Part (part.ForTest site (head.Value (value_of r.x)))) ks} (on_loose h.line at' (start_of ts) r.x (frame.Part p ∷ ks) k.Semicolon refl) n (omega (arith, s.depth_is)))
    (ap (λ (z : Expr). wants (frame.Part (part.ForTest site (head.Value z))) ks) r.is)

pub optional_none_reads : (P : ℕ → Type 0) (d : ℕ) (c : Context) (ts : List Token) → OptionalReads P d c ts None ts
optional_none_reads P d c ts p ks mark q lack s n nq at' next h = take h {m = mode.Want} {ks = frame.Part p ∷ ks} {q = q None} (lack.lacks at') n (nq None)

pub optional_some_reads : (P : ℕ → Type 0) (d : ℕ) (c : Context) (ts : List Token) (e : Expr) (t : Tail) (rest : List Token) → AssignReads P d c ts e t rest → OptionalReads P d c ts (Some e) rest
optional_some_reads P d c ts e t rest i p ks mark q lack s n nq at' next h =
    let r = i (frame.Part p ∷ ks) s refl refl (ends_loose t h lack.loose_mark) in
    r.leads
    ⟫ ending_at (take h {m = mode.Operand (start_of ts) r.x} {ks = frame.Part p ∷ ks} {q = q (Some (value_of r.x))} (on_loose h.line at' (start_of ts) r.x (frame.Part p ∷ ks) mark lack.loose_mark ∙ lack.has h.line at' (start_of ts) r.x) n (nq (Some (value_of r.x))))
    (ap (λ (z : Expr). q (Some z)) r.is)

pub for_reads : (P : ℕ → Type 0) (d : ℕ) (c : Context) (ts : List Token) (site : ℕ) (from : List Token) (opens : ℕ) (inside : List Token) (first : LoopHead Expr) (mid : List Token) (at' : ℕ) (test : List Token) (e : Option Expr) (second : List Token) (at'' : ℕ) (update : List Token) (u : Option Expr) (close : List Token) (at''' : ℕ) (under : List Token) (s : Stmt) (rest : List Token)
    → IsWord ts word.For site from → Begins from k.OpenRound opens inside → HeadReads P d c inside first mid → Begins mid k.Semicolon at' test → OptionalReads P d c test e second → Begins second k.Semicolon at'' update → OptionalReads P d c update u close → Begins close k.CloseRound at''' under → BelowReads P d (looping c) under s rest
    → InnerReads P d c ts (stmt.For site first e u s) rest
for_reads P d c ts site from opens inside first mid at' test e second at'' update u close at''' under s rest h h1 i h2 j h3 l h4 w ks st n m above o =
    let b : Below = below.For site first e u in
    take_open h.1 (begins_inner ks) m above (at (mode.Opening (opening.For site)) ks) o refl n st.depth_is
    ⟫ take h1 {m = mode.Opening (opening.For site)} {ks = ks} {q = at (mode.Opening (opening.ForHead site)) ks} refl n st.depth_is
    ⟫ i site ks st n at' test h2
    ⟫ j (part.ForTest site first) ks k.Semicolon (λ z. wants (frame.Part (part.ForUpdate site first z)) ks)
    (record { loose_mark = refl; lacks = λ x. refl; has = λ line x start y. refl }) (part_stands (part.ForTest site first) refl st) n (λ z. omega (arith, st.depth_is)) at'' update h3
    ⟫ l (part.ForUpdate site first e) ks k.CloseRound (λ z. at mode.Below (frame.Below (below.For site first e z) ∷ ks))
    (record { loose_mark = refl; lacks = λ x. refl; has = λ line x start y. refl }) (part_stands (part.ForUpdate site first e) refl st) n (λ z. omega (arith, st.depth_is)) at''' under h4
    ⟫ w b ks (loop_stands b refl refl st) refl
    ⟫ over_below P rest s b ks refl

-- ---- `for` over items

of_on : (line : Bool) (site : ℕ) (o : DeclarationKind) (n : Identifier) (at' : ℕ) (ks : List Frame) (name : List ℕ) → is_of name ≡ true → named_on line (declaring place.Loop site o) n at' ks (k.Name name) ≡ Some (wants (frame.Part (part.ForOf site o n)) ks)
of_on line site o n at' ks name h = rw h refl

pub for_of_reads : (P : ℕ → Type 0) (d : ℕ) (c : Context) (ts : List Token) (site : ℕ) (from : List Token) (opens : ℕ) (inside : List Token) (o : DeclarationKind) (at' : ℕ) (name : List Token) (n : Identifier) (mark : List Token) (of' : List ℕ) (at'' : ℕ) (items : List Token) (e : Expr) (t : Tail) (close : List Token) (at''' : ℕ) (under : List Token) (s : Stmt) (rest : List Token)
    → IsWord ts word.For site from → Begins from k.OpenRound opens inside → IsDeclares inside o at' name → IsIdentifier name n mark → is_of n.name ≡ false → Begins mark (k.Name of') at'' items → is_of of' ≡ true → AssignReads P d c items e t close → Begins close k.CloseRound at''' under → BelowReads P d (looping c) under s rest
    → InnerReads P d c ts (stmt.ForOf site o n e s) rest
for_of_reads P d c ts site from opens inside o at' name n mark of' at'' items e t close at''' under s rest h h1 h2 h3 g h4 g' i h5 w ks st np m above open' =
    let b : Below = below.ForOf site o n e in
    let p : Part = part.ForOf site o n in
    let r = i (frame.Part p ∷ ks) (part_stands p refl st) refl refl (ends_loose t h5 refl) in
    take_open h.1 (begins_inner ks) m above (at (mode.Opening (opening.For site)) ks) open' refl np st.depth_is
    ⟫ take h1 {m = mode.Opening (opening.For site)} {ks = ks} {q = at (mode.Opening (opening.ForHead site)) ks} refl np st.depth_is
    ⟫ loop_declares P inside o at' name h2 site ks d st.depth_is np
    ⟫ name_due P name mark n h3 (declaring place.Loop site o) ks d st.depth_is np (inr g)
    ⟫ take h4 {m = mode.Opening (opening.Named (declaring place.Loop site o) n)} {ks = ks} {q = wants (frame.Part p) ks} (of_on h4.line site o n at'' ks of' g') np (omega (arith, st.depth_is))
    ⟫ r.leads
    ⟫ ending_at (take h5 {m = mode.Operand (start_of items) r.x} {ks = frame.Part p ∷ ks} {q = at mode.Below (frame.Below (below.ForOf site o n (value_of r.x)) ∷ ks)} (on_loose h5.line at''' (start_of items) r.x (frame.Part p ∷ ks) k.CloseRound refl) np (omega (arith, st.depth_is)))
    (ap (λ (z : Expr). at mode.Below (frame.Below (below.ForOf site o n z) ∷ ks)) r.is)
    ⟫ w b ks (loop_stands b refl refl st) refl
    ⟫ over_below P rest s b ks refl
