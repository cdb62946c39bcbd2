-- Assignments, conditionals, arrows and functions are read.
use Rattle.std.proofs.Common.{◌≡◌, ℕ, suc, ◌<◌, Bool, true, false, List, [], ◌∷◌, ◌++◌, Option, Some, refl, sym, ap, ◌∙◌, append_assoc, arith}
use Rattle.std.proofs.lemmas.List.{append-nil}
use Rattle.js_ast.specs.declared.expression.Expr.{Expr}
use Rattle.js_ast.specs.declared.expression.Expr.TheVariants as expr
use Rattle.js_ast.specs.declared.statement.Stmt.{Stmt}
use Rattle.js_ast.specs.declared.operators.BinaryOp.{BinaryOp}
use Rattle.js_ast.specs.declared.parts.Identifier.{Identifier}
use Rattle.js_ast.specs.declared.parts.Target.{Target}
use Rattle.js_grammar.specs.declared.token.Token.{Token}
use Rattle.js_grammar.specs.declared.token.TokenKind.{TokenKind}
use Rattle.js_grammar.specs.declared.token.TokenKind.TheVariants as k
use Rattle.js_grammar.specs.declared.token.Word.TheVariants as word
use Rattle.js_grammar.specs.Phrases.{Begins, Beside, IsWord, start_of, starts, is_open_brace, Tail, call, braces, Context, in_body, in_arrow}
use Rattle.js_grammar.specs.Grammar.{IsNames, names_none, names_last, names_more, IsParameters, IsArrowParameters, parameters_one, parameters_none, parameters_round, IsOptionalName, name_none, name_some}
use Rattle.js_reading.specs.declared.frame.Frame.{Frame}
use Rattle.js_reading.specs.declared.frame.Frame.TheVariants as frame
use Rattle.js_reading.specs.declared.frame.Pending.{Pending}
use Rattle.js_reading.specs.declared.frame.Pending.TheVariants as pending
use Rattle.js_reading.specs.declared.frame.Bracket.TheVariants as bracket
use Rattle.js_reading.specs.declared.frame.Braces.TheVariants as list
use Rattle.js_reading.specs.declared.mode.Mode.TheVariants as mode
use Rattle.js_reading.specs.declared.mode.Operand.{Operand}
use Rattle.js_reading.specs.declared.mode.Operand.TheVariants as operand
use Rattle.js_reading.specs.declared.mode.Header.{Header}
use Rattle.js_reading.specs.declared.mode.Header.TheVariants as header
use Rattle.js_reading.specs.declared.mode.Heading.TheVariants as heading
use Rattle.js_reading.specs.declared.mode.Piece.TheVariants as piece
use Rattle.js_reading.specs.declared.mode.Parser.{Parser}
use Rattle.js_reading.specs.Frames.{depth, takes_assign}
use Rattle.js_reading.specs.Operands.{at, reached, wants, value_of, tail_of, target_of, parameter_of, headed}
use Rattle.js_reading.specs.Reading.{operand_on, nesting}
use Rattle.js_laws.proofs.Steps.{Leads, ◌⟫◌, take, take_beside, ending_at}
use Rattle.js_laws.proofs.WaitingFrames.{settled_as, grip, room_assign, unary_assign, value_settled, tail_settled, literal_settled, never_bare, target_call, settle_as, pending_settles}
use Rattle.js_laws.proofs.ReadParts.{Stands, ends_loose, on_loose, Reads, AssignReads, ConditionalReads, LevelReads, FirstReads, TargetReads, BodyReads, StmtsReads, from_start, sited}
use Rattle.js_laws.proofs.Chains.{grows, before_question, question_on}

-- ---- conditionals

pub conditional_short_reads : (P : ℕ → Type 0) (d : ℕ) (c : Context) (ts : List Token) (e : Expr) (tail : Tail) (rest : List Token) → LevelReads P 10 d c ts e tail rest → ConditionalReads P d c ts e tail rest
conditional_short_reads P d c ts e tail rest i ks s n ta f g = i ks s n (omega (arith, room_assign ks ta)) f (omega arith)

same_conditional : (start site : ℕ) (x y z a b c : Expr) → x ≡ a → y ≡ b → z ≡ c → expr.Conditional start site x y z ≡ expr.Conditional start site a b c
same_conditional start site x y z a b c p q r = rw (p, q, r) refl

conditional_made : (P : ℕ → Type 0) (d : ℕ) (c : Context) (ts : List Token) (test : Expr) (t : Tail) (mark : List Token) (site : ℕ) (from : List Token) (a : Expr) (u : Tail) (colon : List Token) (at' : ℕ) (from' : List Token) (b : Expr) (tail : Tail) (rest : List Token) (ks : List Frame)
    → grows t ≡ true → Begins mark k.Question site from → Begins colon k.Colon at' from' → Stands c d ks → P d → takes_assign ks ≡ true → 12 < grip tail rest
    → (r1 : Reads P ts test t mark ks) (r2 : Reads P from a u colon (frame.Bracket (bracket.Question (start_of ts) site (value_of r1.x)) ∷ ks)) → Reads P from' b tail rest (frame.Pending (pending.Conditional (start_of ts) site (value_of r1.x) (value_of r2.x)) ∷ ks)
    → Reads P ts (expr.Conditional (start_of ts) site test a b) tail rest ks
conditional_made P d c ts test t mark site from a u colon at' from' b tail rest ks gt h h' s n ta g r1 r2 r3 =
    let p : Pending = pending.Conditional (start_of ts) site (value_of r1.x) (value_of r2.x) in
    let q : Expr = expr.Conditional (start_of ts) site (value_of r1.x) (value_of r2.x) (value_of r3.x) in
    record {
      x = settled_as tail q;
      is = value_settled tail q ∙ same_conditional (start_of ts) site (value_of r1.x) (value_of r2.x) (value_of r3.x) test a b r1.is r2.is r3.is;
      tail_is = tail_settled tail q (λ z. never_bare r3.x (r3.tail_is ∙ z));
      literal = λ z. absurd (cc (literal_settled tail q));
      leads = r1.leads ⟫ take h (question_on h.line site (start_of ts) r1.x ks (rw (r1.tail_is) gt) (room_assign ks ta)) n (omega (arith, s.depth_is))
          ⟫ r2.leads ⟫ take h' (on_loose h'.line at' (start_of from) r2.x (frame.Bracket (bracket.Question (start_of ts) site (value_of r1.x)) ∷ ks) k.Colon refl) n (omega (arith, s.depth_is))
          ⟫ r3.leads ⟫ settle_as (pending_settles p (start_of from') r3.x ks (unary_assign ks ta)) r3.tail_is g;
    }

question_stands : {c : Context} {d : ℕ} {ks : List Frame} (start site : ℕ) (test : Expr) → Stands c d ks → Stands c (suc d) (frame.Bracket (bracket.Question start site test) ∷ ks)
question_stands start site test s = record { context_is = s.context_is; depth_is = omega (arith, s.depth_is) }

conditional_stands : {c : Context} {d : ℕ} {ks : List Frame} (start site : ℕ) (test value : Expr) → Stands c d ks → Stands c (suc d) (frame.Pending (pending.Conditional start site test value) ∷ ks)
conditional_stands start site test value s = record { context_is = s.context_is; depth_is = omega (arith, s.depth_is) }

-- the part behind the `:`
conditional_last : (P : ℕ → Type 0) (d : ℕ) (c : Context) (ts : List Token) (test : Expr) (t : Tail) (mark : List Token) (site : ℕ) (from : List Token) (a : Expr) (u : Tail) (colon : List Token) (at' : ℕ) (from' : List Token) (b : Expr) (tail : Tail) (rest : List Token) (ks : List Frame)
    → grows t ≡ true → Begins mark k.Question site from → Begins colon k.Colon at' from' → Stands c d ks → P d → takes_assign ks ≡ true → 12 < grip tail rest → AssignReads P d c from' b tail rest
    → (r1 : Reads P ts test t mark ks) → Reads P from a u colon (frame.Bracket (bracket.Question (start_of ts) site (value_of r1.x)) ∷ ks) → Reads P ts (expr.Conditional (start_of ts) site test a b) tail rest ks
conditional_last P d c ts test t mark site from a u colon at' from' b tail rest ks gt h h' s n ta g l r1 r2 =
    conditional_made P d c ts test t mark site from a u colon at' from' b tail rest ks gt h h' s n ta g r1 r2 (l (frame.Pending (pending.Conditional (start_of ts) site (value_of r1.x) (value_of r2.x)) ∷ ks) (conditional_stands (start_of ts) site (value_of r1.x) (value_of r2.x) s) refl refl g)

-- the parts behind the `?`
conditional_rest : (P : ℕ → Type 0) (d : ℕ) (c : Context) (ts : List Token) (test : Expr) (t : Tail) (mark : List Token) (site : ℕ) (from : List Token) (a : Expr) (u : Tail) (colon : List Token) (at' : ℕ) (from' : List Token) (b : Expr) (tail : Tail) (rest : List Token) (ks : List Frame)
    → grows t ≡ true → Begins mark k.Question site from → AssignReads P d c from a u colon → Begins colon k.Colon at' from' → Stands c d ks → P d → takes_assign ks ≡ true → 12 < grip tail rest → AssignReads P d c from' b tail rest
    → Reads P ts test t mark ks → Reads P ts (expr.Conditional (start_of ts) site test a b) tail rest ks
conditional_rest P d c ts test t mark site from a u colon at' from' b tail rest ks gt h j h' s n ta g l r1 =
    conditional_last P d c ts test t mark site from a u colon at' from' b tail rest ks gt h h' s n ta g l r1 (j (frame.Bracket (bracket.Question (start_of ts) site (value_of r1.x)) ∷ ks) (question_stands (start_of ts) site (value_of r1.x) s) refl refl (ends_loose u h' refl))

pub conditional_both_reads : (P : ℕ → Type 0) (d : ℕ) (c : Context) (ts : List Token) (test : Expr) (t : Tail) (mark : List Token) (site : ℕ) (from : List Token) (a : Expr) (u : Tail) (colon : List Token) (at' : ℕ) (from' : List Token) (b : Expr) (tail : Tail) (rest : List Token)
    → LevelReads P 10 d c ts test t mark → grows t ≡ true → Begins mark k.Question site from → AssignReads P d c from a u colon → Begins colon k.Colon at' from' → AssignReads P d c from' b tail rest → ConditionalReads P d c ts (expr.Conditional (start_of ts) site test a b) tail rest
conditional_both_reads P d c ts test t mark site from a u colon at' from' b tail rest i gt h j h' l ks s n ta f g =
    conditional_rest P d c ts test t mark site from a u colon at' from' b tail rest ks gt h j h' s n ta g l (i ks s n (omega (arith, room_assign ks ta)) f (omega (arith, before_question t h)))

-- ---- assignments

pub assign_conditional_reads : (P : ℕ → Type 0) (d : ℕ) (c : Context) (ts : List Token) (e : Expr) (tail : Tail) (rest : List Token) → P (suc d) → ConditionalReads P (suc d) c ts e tail rest → AssignReads P d c ts e tail rest
assign_conditional_reads P d c ts e tail rest n i ks s ta f g = i ks s n ta f g

assign_on : (line : Bool) (o : Option BinaryOp) (site start : ℕ) (x : Operand) (ks : List Frame) (t : Target Expr) → target_of x ≡ Some t → takes_assign ks ≡ true → operand_on line site start x ks (k.Assign o) ≡ Some (wants (frame.Pending (pending.Assign start site o t)) ks)
assign_on line o site start x ks t h ta = rw (target_call x t h, h, ta) refl

pub assign_sets_reads : (P : ℕ → Type 0) (d : ℕ) (c : Context) (ts : List Token) (t : Target Expr) (mark : List Token) (o : Option BinaryOp) (site : ℕ) (from : List Token) (e : Expr) (tail : Tail) (rest : List Token)
    → P (suc d) → TargetReads P (suc d) c ts t mark → Begins mark (k.Assign o) site from → AssignReads P (suc d) c from e tail rest → AssignReads P d c ts (expr.Assign (start_of ts) site o t e) tail rest
assign_sets_reads P d c ts t mark o site from e tail rest n i h j ks s ta f g =
    let r1 = i ks s n f in
    let p : Pending = pending.Assign (start_of ts) site o t in
    let s2 : Stands c (suc (suc d)) (frame.Pending p ∷ ks) = record { context_is = s.context_is; depth_is = omega (arith, s.depth_is) } in
    let r2 = j (frame.Pending p ∷ ks) s2 refl refl g in
    let q : Expr = expr.Assign (start_of ts) site o t (value_of r2.x) in
    record {
      x = settled_as tail q;
      is = value_settled tail q ∙ rw r2.is refl;
      tail_is = tail_settled tail q (λ z. never_bare r2.x (r2.tail_is ∙ z));
      literal = λ z. absurd (cc (literal_settled tail q));
      leads = r1.leads ⟫ take h (assign_on h.line o site (start_of ts) r1.x ks t r1.target_is ta) n (omega (arith, s.depth_is))
          ⟫ r2.leads ⟫ settle_as (pending_settles p (start_of from) r2.x ks (unary_assign ks ta)) r2.tail_is g;
    }

-- ---- parameters

nest_headed : (h : Header) (names : List Identifier) (ks : List Frame) → nesting (at (mode.Heading (headed h names)) ks) ≡ depth ks
nest_headed (header.Function site n) names ks = refl
nest_headed (header.Value site n) names ks = refl
nest_headed (header.Arrow site) names ks = refl

pub names_read : (P : ℕ → Type 0) (ts : List Token) (ns : List Identifier) (rest : List Token) → IsNames ts ns rest → (h : Header) (found : List Identifier) (ks : List Frame) (d d' : ℕ) → depth ks ≡ d → P d → ((n : List Identifier) → nesting (at (mode.Heading (heading.Parameter h n)) ks) ≡ d') → P d'
    → Leads P ts (at (mode.Heading (heading.Parameters h found)) ks) rest (at (mode.Heading (headed h (found ++ ns))) ks)
names_read P _ _ _ (names_none ts site rest i) h found ks d d' s n s' n' =
    ending_at (take i {m = mode.Heading (heading.Parameters h found)} {ks = ks} {q = at (mode.Heading (headed h found)) ks} refl n (nest_headed h found ks ∙ s)) (ap (λ (z : List Identifier). at (mode.Heading (headed h z)) ks) (sym (append-nil found)))
names_read P _ _ _ (names_last ts after' name site rest i j) h found ks d d' s n s' n' =
    take i.begins {m = mode.Heading (heading.Parameters h found)} {ks = ks} {q = at (mode.Heading (heading.Parameter h (found ++ name ∷ []))) ks} refl n' (s' (found ++ name ∷ []))
    ⟫ take j {m = mode.Heading (heading.Parameter h (found ++ name ∷ []))} {ks = ks} {q = at (mode.Heading (headed h (found ++ name ∷ []))) ks} refl n (nest_headed h (found ++ name ∷ []) ks ∙ s)
names_read P _ _ _ (names_more ts comma after' name ns site rest i j more) h found ks d d' s n s' n' =
    take i.begins {m = mode.Heading (heading.Parameters h found)} {ks = ks} {q = at (mode.Heading (heading.Parameter h (found ++ name ∷ []))) ks} refl n' (s' (found ++ name ∷ []))
    ⟫ take j {m = mode.Heading (heading.Parameter h (found ++ name ∷ []))} {ks = ks} {q = at (mode.Heading (heading.Parameters h (found ++ name ∷ []))) ks} refl n s
    ⟫ ending_at (names_read P after' ns rest more h (found ++ name ∷ []) ks d d' s n s' n') (ap (λ (z : List Identifier). at (mode.Heading (headed h z)) ks) (append_assoc found (name ∷ []) ns))

name_arrow : (site start : ℕ) (n : Identifier) (ks : List Frame) (x : Operand) → takes_assign ks ≡ true → tail_of x ≡ call → parameter_of x ≡ Some n → operand_on false site start x ks k.Arrow ≡ Some (wants (frame.Pending (pending.Arrow start (n ∷ []))) ks)
name_arrow site start n ks x ta t p = rw (t, p, ta) refl

abbrev pub ArrowReads : (ℕ → Type 0) → ℕ → List Token → List Identifier → List Token → Type 0
ArrowReads P d ts ns mark = (ks : List Frame) → depth ks ≡ d → P d → takes_assign ks ≡ true → (site : ℕ) (from : List Token) → Beside mark k.Arrow site from → Leads P ts (at mode.Want ks) from (wants (frame.Pending (pending.Arrow (start_of ts) ns)) ks)

arrow_from : {P : ℕ → Type 0} {ts : List Token} {kind : TokenKind} {site : ℕ} {left : List Token} {p : Parser} {rest : List Token} {ns : List Identifier} {ks : List Frame} → Begins ts kind site left → Leads P ts p rest (wants (frame.Pending (pending.Arrow site ns)) ks) → Leads P ts p rest (wants (frame.Pending (pending.Arrow (start_of ts) ns)) ks)
arrow_from {P} {ts} {kind} {site} {left} {p} {rest} {ns} {ks} h f = ending_at f (ap (λ (z : ℕ). wants (frame.Pending (pending.Arrow z ns)) ks) (sited h))

round_names : (P : ℕ → Type 0) (d : ℕ) (inside : List Token) (ns : List Identifier) (mark : List Token) → IsNames inside ns mark → (opens : ℕ) (ks : List Frame) → depth ks ≡ d → P d → ((n : Identifier) (more : List Identifier) → ns ≡ n ∷ more → P (suc d)) → takes_assign ks ≡ true → (site : ℕ) (from : List Token) → Beside mark k.Arrow site from → Leads P inside (wants (frame.Bracket (bracket.Round opens)) ks) from (wants (frame.Pending (pending.Arrow opens ns)) ks)
round_names P d _ _ _ (names_none ts at' mark i) opens ks s n n' ta site from b =
    take i {m = mode.Want} {ks = frame.Bracket (bracket.Round opens) ∷ ks} {q = at (mode.Heading (heading.Arrow opens [])) ks} (rw ta refl) n s ⟫ take_beside b refl n (omega (arith, s))
round_names P d _ _ _ (names_last ts after' name at' mark i j) opens ks s n n' ta site from b =
    take i.begins {m = mode.Want} {ks = frame.Bracket (bracket.Round opens) ∷ ks} {q = reached name.site (operand.Name name) (frame.Bracket (bracket.Round opens) ∷ ks)} refl (n' name [] refl) (omega (arith, s))
    ⟫ take j {m = mode.Operand name.site (operand.Name name)} {ks = frame.Bracket (bracket.Round opens) ∷ ks} {q = reached opens (operand.RoundName name) ks} refl n s
    ⟫ take_beside b (name_arrow site opens name ks (operand.RoundName name) ta refl refl) n (omega (arith, s))
round_names P d _ _ _ (names_more ts comma after' name ns at' mark i j more) opens ks s n n' ta site from b =
    take i.begins {m = mode.Want} {ks = frame.Bracket (bracket.Round opens) ∷ ks} {q = reached name.site (operand.Name name) (frame.Bracket (bracket.Round opens) ∷ ks)} refl (n' name ns refl) (omega (arith, s))
    ⟫ take j {m = mode.Operand name.site (operand.Name name)} {ks = frame.Bracket (bracket.Round opens) ∷ ks} {q = at (mode.Heading (heading.Parameters (header.Arrow opens) (name ∷ []))) ks} (rw ta refl) n s
    ⟫ names_read P after' ns mark more (header.Arrow opens) (name ∷ []) ks d (suc d) s n (λ z. omega (arith, s)) (n' name ns refl)
    ⟫ take_beside b {m = mode.Heading (heading.Arrow opens (name ∷ ns))} {ks = ks} {q = wants (frame.Pending (pending.Arrow opens (name ∷ ns))) ks} refl n (omega (arith, s))

never_more : (n : Identifier) (more : List Identifier) → [] ≡ n ∷ more → ⊥
never_more n more e = cc

pub arrow_parameters_read : (P : ℕ → Type 0) (d : ℕ) (ts : List Token) (ns : List Identifier) (mark : List Token) → IsArrowParameters P d ts ns mark → ArrowReads P d ts ns mark
arrow_parameters_read P d _ _ _ (parameters_one ts name mark i) ks s n ta site from b =
    arrow_from i.begins (take i.begins {m = mode.Want} {ks = ks} {q = reached name.site (operand.Name name) ks} refl n s ⟫ take_beside b (name_arrow site name.site name ks (operand.Name name) ta refl refl) n (omega (arith, s)))
arrow_parameters_read P d _ _ _ (parameters_none ts mark i) ks s n ta site from b =
    arrow_from i.2 (take i.2 {m = mode.Want} {ks = ks} {q = wants (frame.Bracket (bracket.Round i.0)) ks} refl n (omega (arith, s)) ⟫ round_names P d i.1 [] mark i.3 i.0 ks s n (λ z more e. absurd (never_more z more e)) ta site from b)
arrow_parameters_read P d _ _ _ (parameters_round ts name ns mark n' i) ks s n ta site from b =
    arrow_from i.2 (take i.2 {m = mode.Want} {ks = ks} {q = wants (frame.Bracket (bracket.Round i.0)) ks} refl n (omega (arith, s)) ⟫ round_names P d i.1 (name ∷ ns) mark i.3 i.0 ks s n (λ z more e. n') ta site from b)

-- ---- arrows

arrow_stands : {c : Context} {d : ℕ} {ks : List Frame} (start : ℕ) (ns : List Identifier) → Stands c d ks → Stands (in_arrow c) (suc d) (frame.Pending (pending.Arrow start ns) ∷ ks)
arrow_stands start ns s = record { context_is = ap in_arrow s.context_is; depth_is = omega (arith, s.depth_is) }

pub arrow_reads : (P : ℕ → Type 0) (d : ℕ) (c : Context) (ts : List Token) (ns : List Identifier) (mark : List Token) (site : ℕ) (from : List Token) (e : Expr) (tail : Tail) (rest : List Token)
    → P (suc d) → IsArrowParameters P (suc d) ts ns mark → Beside mark k.Arrow site from → starts is_open_brace from ≡ false → AssignReads P (suc d) (in_arrow c) from e tail rest → AssignReads P d c ts (expr.Arrow (start_of ts) ns e) tail rest
arrow_reads P d c ts ns mark site from e tail rest n i b nb j ks s ta f g =
    let p : Pending = pending.Arrow (start_of ts) ns in
    let r = j (frame.Pending p ∷ ks) (arrow_stands (start_of ts) ns s) refl nb g in
    let q : Expr = expr.Arrow (start_of ts) ns (value_of r.x) in
    record {
      x = settled_as tail q;
      is = value_settled tail q ∙ rw r.is refl;
      tail_is = tail_settled tail q (λ z. never_bare r.x (r.tail_is ∙ z));
      literal = λ z. absurd (cc (literal_settled tail q));
      leads = arrow_parameters_read P (suc d) ts ns mark i ks s.depth_is n ta site from b ⟫ r.leads ⟫ settle_as (pending_settles p (start_of from) r.x ks (unary_assign ks ta)) r.tail_is g;
    }

pub arrow_block_reads : (P : ℕ → Type 0) (d : ℕ) (c : Context) (ts : List Token) (ns : List Identifier) (mark : List Token) (site : ℕ) (from : List Token) (body : List Stmt) (rest : List Token)
    → P (suc d) → IsArrowParameters P (suc d) ts ns mark → Beside mark k.Arrow site from → BodyReads P (suc d) (in_arrow c) from body rest → AssignReads P d c ts (expr.ArrowBlock (start_of ts) ns body) braces rest
arrow_block_reads P d c ts ns mark site from body rest n i b j ks s ta f g =
    let q : Parser = reached (start_of ts) (operand.Braced (expr.ArrowBlock (start_of ts) ns body)) ks in
    record {
      x = operand.Braced (expr.ArrowBlock (start_of ts) ns body);
      is = refl;
      tail_is = refl;
      literal = λ z. absurd cc;
      leads = arrow_parameters_read P (suc d) ts ns mark i ks s.depth_is n ta site from b
          ⟫ j mode.Want (frame.Pending (pending.Arrow (start_of ts) ns) ∷ ks) (list.Arrow (start_of ts) ns) ks q (λ t left e h. rw h refl) (ap in_arrow s.context_is) s.depth_is n refl s.depth_is;
    }

-- ---- functions

pub body_reads : (P : ℕ → Type 0) (d : ℕ) (c : Context) (ts : List Token) (opens : ℕ) (inside : List Token) (body : List Stmt) (close : List Token) (at' : ℕ) (rest : List Token) → Begins ts k.OpenBrace opens inside → StmtsReads P d c inside body close → Begins close k.CloseBrace at' rest → BodyReads P d c ts body rest
body_reads P d c ts opens inside body close at' rest h i h' m above b ks q st cx dx n cl nq =
    take h {m = m} {ks = above} {q = at mode.Statement (frame.List b [] ∷ ks)} (st (record { kind = k.OpenBrace; start = opens; line_before = h.line }) inside h.begins refl) n (omega (arith, dx))
    ⟫ i b [] ks cx dx
    ⟫ take h' {m = mode.Statement} {ks = frame.List b body ∷ ks} {q = q} cl n nq

value_named : (P : ℕ → Type 0) (from : List Token) (name : Option Identifier) (mid : List Token) → IsOptionalName from name mid → (site : ℕ) (ks : List Frame) (d : ℕ) → depth ks ≡ d → P d → (opens : ℕ) (inside : List Token) → Begins mid k.OpenRound opens inside
    → Leads P from (at (mode.Piece (piece.Function site)) ks) inside (at (mode.Heading (heading.Parameters (header.Value site name) [])) ks)
value_named P _ _ _ (name_none ts) site ks d s n opens inside h = take h refl n s
value_named P _ _ _ (name_some ts name rest i) site ks d s n opens inside h = take i.begins refl n s ⟫ take h refl n s

pub function_reads : (P : ℕ → Type 0) (d : ℕ) (c : Context) (ts : List Token) (site : ℕ) (from : List Token) (name : Option Identifier) (mid : List Token) (ns : List Identifier) (opens : List Token) (body : List Stmt) (rest : List Token)
    → IsWord ts word.Function site from → IsOptionalName from name mid → IsParameters mid ns opens → BodyReads P d in_body opens body rest → FirstReads P d c ts (expr.FunctionExpression site name ns body) rest
function_reads P d c ts site from name mid ns opens body rest h i j b ks s n f =
    let e : Expr = expr.FunctionExpression site name ns body in
    record {
      x = operand.Primary e;
      is = refl;
      tail_is = refl;
      first_is = refl;
      suffixes_are = refl;
      literal = λ z. absurd cc;
      leads = from_start h.1 (take h.1 {m = mode.Want} {ks = ks} {q = at (mode.Piece (piece.Function site)) ks} refl n s.depth_is
          ⟫ value_named P from name mid i site ks d s.depth_is n j.0 j.1 j.2
          ⟫ names_read P j.1 ns opens j.3 (header.Value site name) [] ks d d s.depth_is n (λ z. omega (arith, s.depth_is)) n
          ⟫ b (mode.Heading (heading.Braces (list.Value site name ns))) ks (list.Value site name ns) ks (reached site (operand.Primary e) ks) (λ t left q g. rw g refl) refl s.depth_is n refl s.depth_is);
    }
