-- The law on ends, of calls and of whole runs.
use Rattle.std.proofs.Common.{ℕ, zero, suc, ◌≡◌, ◌≤◌, ◌⊎◌, inl, inr, List, [], ◌∷◌, Option, Some, refl, sym, subst, arith}
use Rattle.std.proofs.lemmas.List.Elements.{All-nil}
use Rattle.js_units.specs.Utf8.{utf8_size}
use Rattle.js_units.specs.CodeUnits.{code_units}
use Rattle.path_core.specs.declared.bounds.Bounds.{Bounds}
use Rattle.path_core.specs.declared.path.Budget.TheVariants as budget
use Rattle.path_core.specs.declared.path.End.{End}
use Rattle.path_core.specs.declared.path.End.TheVariants.{Cut}
use Rattle.path_core.specs.declared.path.InputValue.{InputValue}
use Rattle.js_ast.specs.declared.statement.Script.{Script}
use Rattle.js_ast.specs.declared.statement.Stmt.{Stmt}
use Rattle.js_grammar.specs.Phrases.{outermost as outermost_context}
use Rattle.js_meaning.specs.Values.{Body, statements, expression, Code, Answers, Place}
use Rattle.js_meaning.specs.Running.{Item, passed, made, Completion, given, refers, normal, breaks, continues, returns, throws, stops, done}
use Rattle.js_meaning.specs.Builtins.{Calls}
use Rattle.js_meaning.specs.Objects.{code_of}
use Rattle.js_meaning.specs.Meaning.{most_ended, stmts, body_of, calls_in, outermost, whole_of}
use Rattle.js_meaning.specs.Path.{start, end_of, run_of}
use Rattle.js_meaning.specs.Apart.{Sites, nowhere, only, anywhere, Silent}
use Rattle.js_parser.specs.Spelling.{Spells}
use Rattle.js_ends.specs.Places.{place}
use Rattle.js_ends.specs.Ends.{IsAgain, AreApart, RunEndsApart}
use Rattle.js_ends.proofs.Fresh.{Named, Apart, moment, To, Last, GoesOn, SpeltStatements, SpeltBody, SoundObject, Stands, Fresh, fresh_wider, stops_or_goes}
use Rattle.js_ends.proofs.Forms.{done_fresh}
use Rattle.js_ends.proofs.Binds.{Within}
use Rattle.js_ends.proofs.Lists.{CallsFresh, part_value}
use Rattle.js_ends.proofs.Blocks.{block_part, BodyFresh, call_fresh, SoundCode, code_sound}
use Rattle.js_ends.proofs.Spelt.{statements_between, expression_between}
use Rattle.js_ends.proofs.Tokens.{tokens_rise}

-- ---- calls

body_fresh : (calls : Calls) → CallsFresh calls → (k : ℕ) (body : Body) → SpeltBody body → BodyFresh calls k body
unfolding body_of
body_fresh calls c k (statements ss) h =
    let p = block_part _ _ ss (stmts ss) (statements_between ss h) in
    record { fresh = λ scope d st s. fresh_wider nowhere anywhere anywhere (λ n w h. h) (λ n w h. tt) (λ n w h. tt) (p.good calls c k scope d st s) }
body_fresh calls c k (expression x) h =
    let p = expression_between x h in
    record { fresh = λ scope d st s. part_value p nowhere nowhere nowhere anywhere anywhere calls c k scope d st (λ v st. done st (returns v)) (λ n w h. tt) (λ n w h. tt) (λ n w h. tt) (λ n w h. tt) (λ n w h g. g) s (λ v st s. done_fresh nowhere nowhere nowhere d st (returns v) s tt tt) }

sound_at : (o : Option Code) (code : Code) → SoundCode o → o ≡ Some code → SpeltBody code.body
sound_at o code h e = subst SoundCode e h

pub calls_fresh : (n : ℕ) → CallsFresh (calls_in n)
calls_fresh zero d site f this xs st s =
    done_fresh nowhere (only site) nowhere d st (stops (Cut site budget.Turns)) s tt tt
calls_fresh (suc n) d site f this xs st s =
    call_fresh (calls_in n) n d site (code_of f st.objects) this xs st (λ code e. body_fresh (calls_in n) (calls_fresh n) n code.body (sound_at (code_of f st.objects) code (code_sound f st.objects s.codes) e)) s

-- ---- scripts

pub whole_fresh : (ss : List Stmt) (h : SpeltStatements ss) (st : Place) → Stands 0 st → Fresh nowhere (Within (place h.end h.tokens) (place h.end h.rest)) (Within (place h.end h.tokens) (place h.end h.rest)) 0 (moment st) (whole_of ss st)
unfolding whole_of
whole_fresh ss h st s =
    let p = block_part _ _ ss (stmts ss) (statements_between ss h) in
    p.good (calls_in (suc st.turns)) (calls_fresh (suc st.turns)) st.turns outermost 0 st s

start_stands : (bounds : Bounds) (values : List InputValue) (answers : Answers) → bounds.turns ≤ most_ended →
    Stands 0 (start bounds values answers)
start_stands bounds values answers l =
    record { codes = All-nil SoundObject; within = omega arith; few = l; less = omega arith }

-- ---- the end of the path in place of the completion

again_split : (x : End) (items : List Item) (end : End) (c : Completion) → IsAgain x items end →
    Named x items c ⊎ (Silent items × (x ≡ end))
again_split x [] end c a = inr (tt, a)
again_split x (passed y ∷ items) end c (inl p) = inl (inl p)
again_split x (passed y ∷ items) end c (inr a) = here (again_split x items end c a)
  where
    here : Named x items c ⊎ (Silent items × (x ≡ end)) → ((y ≡ x) ⊎ Named x items c) ⊎ (Silent items × (x ≡ end))
    here (inl n) = inl (inr n)
    here (inr q) = inr q
again_split x (made e ∷ items) end c a = absurd a

named_stop : (x : End) (items : List Item) → Silent items → Named x items (stops x)
named_stop x [] q = refl
named_stop x (passed y ∷ items) q = inr (named_stop x items q)
named_stop x (made e ∷ items) q = absurd q

apart_stopped : (x : End) (items : List Item) → Apart items (stops x) → AreApart items x
apart_stopped x [] p = tt
apart_stopped x (passed y ∷ items) p = (λ a. none (again_split y items x (stops x) a), apart_stopped x items p.1)
  where
    none : Named y items (stops x) ⊎ (Silent items × (y ≡ x)) → ⊥
    none (inl n) = p.0 n
    none (inr q) = p.0 (subst (λ z. Named y items (stops z)) q.1 (named_stop y items q.0))
apart_stopped x (made e ∷ items) p = apart_stopped x items p

-- an end of the script is the exit of no guard
no_exit : (T : Sites) (m : ℕ) (st : Place) (c : Completion) → GoesOn c → To T m (end_of st c) → ⊥
no_exit T m st (given x) g t = t
no_exit T m st (refers r) g t = t
no_exit T m st normal g t = t
no_exit T m st breaks g t = t
no_exit T m st continues g t = t
no_exit T m st (returns x) g t = t
no_exit T m st (throws site x) g t = t
no_exit T m st (stops x) g t = g

apart_goes : (T : Sites) (m : ℕ) (st : Place) (c : Completion) (items : List Item) → GoesOn c → Apart items c →
    Last T m items → AreApart items (end_of st c)
apart_goes T m st c [] g p l = tt
apart_goes T m st c (passed x ∷ items) g p l =
    (λ a. none (again_split x items (end_of st c) c a), apart_goes T m st c items g p.1 l.1)
  where
    none : Named x items c ⊎ (Silent items × (x ≡ end_of st c)) → ⊥
    none (inl n) = p.0 n
    none (inr q) = no_exit T m st c g (subst (λ z. To T m z) q.1 (l.0 q.0))
apart_goes T m st c (made e ∷ items) g p l = apart_goes T m st c items g p l

apart_path : (T : Sites) (m : ℕ) (st : Place) (c : Completion) (items : List Item) → Apart items c →
    (GoesOn c → Last T m items) → AreApart items (end_of st c)
apart_path T m st c items p l = here (stops_or_goes c)
  where
    here : GoesOn c ⊎ ((x : End) × (c ≡ stops x)) → AreApart items (end_of st c)
    here (inl g) = apart_goes T m st c items g p (l g)
    here (inr q) = subst (λ c. AreApart items (end_of st c)) (sym q.1) (apart_stopped q.0 items (subst (λ c. Apart items c) q.1 p))

-- ---- scripts of texts

spelt_script : (bytes : List ℕ) (script : Script) → Spells bytes script → SpeltStatements script.body
spelt_script bytes script h =
    record { end = utf8_size (code_units bytes); depth = 0; context = outermost_context; tokens = h.spelt.tokens; rest = []; rising = tokens_rise (code_units bytes) 0 h.spelt.tokens h.spelt.tokens_are; spelt = h.spelt.shape }

pub ends_apart : (bytes : List ℕ) (script : Script) (bounds : Bounds) (values : List InputValue) (answers : Answers) →
    Spells bytes script → bounds.turns ≤ most_ended → RunEndsApart script bounds values answers
ends_apart bytes script bounds values answers h l =
    let f = whole_fresh script.body (spelt_script bytes script h) (start bounds values answers) (start_stands bounds values answers l) in
    apart_path _ _ (run_of script bounds values answers).1.0 (run_of script bounds values answers).1.1 (run_of script bounds values answers).0 f.apart f.last
