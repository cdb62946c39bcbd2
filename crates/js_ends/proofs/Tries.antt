-- `try` keeps exits apart: its block, its `catch` and its `finally` stand one behind the other.
use Rattle.std.proofs.Common.{ℕ, ◌≡◌, ◌≤◌, ◌<◌, true, List, Option, Some, None, refl, sym, subst, arith}
use Rattle.path_core.specs.declared.path.End.{End}
use Rattle.js_ast.specs.declared.statement.Stmt.{Stmt}
use Rattle.js_ast.specs.declared.parts.Identifier.{Identifier}
use Rattle.js_ast.specs.declared.parts.Catch.{Catch}
use Rattle.js_meaning.specs.Values.{Value, Scope, Place}
use Rattle.js_meaning.specs.Running.{Completion, given, refers, normal, breaks, continues, returns, throws, stops, Outcome, done, bind}
use Rattle.js_meaning.specs.Builtins.{Calls}
use Rattle.js_meaning.specs.Parts.{Meaning}
use Rattle.js_meaning.specs.Loops.{kept, open_catch}
use Rattle.js_meaning.specs.Meaning.{caught, finished, block_of}
use Rattle.js_meaning.specs.Apart.{Sites, nowhere}
use Rattle.js_ends.proofs.Fresh.{moment, GoesOn, Waits, Stands, Fresh, end_goes, fresh_wider, fresh_bind}
use Rattle.js_ends.proofs.Forms.{done_fresh, open_fresh}
use Rattle.js_ends.proofs.Binds.{Within, Steps}
use Rattle.js_ends.proofs.Lists.{CallsFresh, within}
use Rattle.js_ends.proofs.Blocks.{Doing}

abbrev pub CatchName : ℕ → ℕ → Option Identifier → Type 0
CatchName lo mid None = Unit {0}
CatchName lo mid (Some name) = (lo ≤ name.site) × (name.site < mid)

abbrev pub CatchIn : ℕ → ℕ → Option (Catch (List (Stmt × Meaning))) → Type 0
CatchIn lo hi None = lo ≤ hi
CatchIn lo hi (Some x) = (mid : ℕ) × (lo ≤ mid) × CatchName lo mid x.name × Doing mid hi (block_of x.body)

abbrev pub FinallyIn : ℕ → ℕ → Option (List (Stmt × Meaning)) → Type 0
FinallyIn lo hi None = lo ≤ hi
FinallyIn lo hi (Some ms) = Doing lo hi (block_of ms)

catch_le : (lo hi : ℕ) (o : Option (Catch (List (Stmt × Meaning)))) → CatchIn lo hi o → lo ≤ hi
catch_le lo hi None h = h
catch_le lo hi (Some x) (mid, l, n, p) = omega (arith, l, p.le)

finally_le : (lo hi : ℕ) (o : Option (List (Stmt × Meaning))) → FinallyIn lo hi o → lo ≤ hi
finally_le lo hi None h = h
finally_le lo hi (Some ms) p = p.le

catch_scope : (lo hi d : ℕ) (name : Option Identifier) (x : Value) (scope : Scope) (st : Place)
    (go : Scope → Place → Outcome) → CatchName lo hi name → Stands d st →
    ((scope : Scope) → Steps nowhere (Within lo hi) (Within lo hi) d (go scope)) →
    Fresh nowhere (Within lo hi) (Within lo hi) d (moment st) (open_catch name x scope st go)
catch_scope lo hi d None x scope st go n s k = k scope st s
catch_scope lo hi d (Some name) x scope st go n s k =
    open_fresh nowhere (Within lo hi) (Within lo hi) d name.site name.name true (Some x) scope st go n s k

caught_hands : (o : Option (Catch (List (Stmt × Meaning)))) (calls : Calls) (k : ℕ) (scope : Scope) (st : Place)
    (x : End) → caught o calls k scope st (stops x) ≡ done st (stops x)
caught_hands None calls k scope st x = refl
caught_hands (Some y) calls k scope st x = refl

-- another completion than a throw is handed on
passed_on : (F T : Sites) (d : ℕ) (st : Place) (c : Completion) → GoesOn c → Waits nowhere c → Stands d st →
    Fresh nowhere F T d (moment st) (done st c)
passed_on F T d st c g w s = done_fresh nowhere F T d st c s (end_goes F (moment st) c g) w

name_wider : (lo mid hi : ℕ) (name : Option Identifier) → mid ≤ hi → CatchName lo mid name → CatchName lo hi name
name_wider lo mid hi None l n = tt
name_wider lo mid hi (Some name) l n = (n.0, omega (arith, n.1, l))

caught_fresh : (lo hi : ℕ) (o : Option (Catch (List (Stmt × Meaning)))) → CatchIn lo hi o → (calls : Calls) →
    CallsFresh calls → (k : ℕ) (scope : Scope) (d : ℕ) (st : Place) (c : Completion) → GoesOn c → Waits nowhere c →
    Stands d st → Fresh nowhere (Within lo hi) (Within lo hi) d (moment st) (caught o calls k scope st c)
caught_fresh lo hi None h calls c k scope d st (stops x) g w s = absurd g
caught_fresh lo hi None h calls c k scope d st (given x) g w s = passed_on _ _ d st (given x) g w s
caught_fresh lo hi None h calls c k scope d st (refers r) g w s = passed_on _ _ d st (refers r) g w s
caught_fresh lo hi None h calls c k scope d st normal g w s = passed_on _ _ d st normal g w s
caught_fresh lo hi None h calls c k scope d st breaks g w s = passed_on _ _ d st breaks g w s
caught_fresh lo hi None h calls c k scope d st continues g w s = passed_on _ _ d st continues g w s
caught_fresh lo hi None h calls c k scope d st (returns x) g w s = passed_on _ _ d st (returns x) g w s
caught_fresh lo hi None h calls c k scope d st (throws site x) g w s = passed_on _ _ d st (throws site x) g w s
caught_fresh lo hi (Some y) h calls c k scope d st (stops x) g w s = absurd g
caught_fresh lo hi (Some y) h calls c k scope d st (given x) g w s = passed_on _ _ d st (given x) g w s
caught_fresh lo hi (Some y) h calls c k scope d st (refers r) g w s = passed_on _ _ d st (refers r) g w s
caught_fresh lo hi (Some y) h calls c k scope d st normal g w s = passed_on _ _ d st normal g w s
caught_fresh lo hi (Some y) h calls c k scope d st breaks g w s = passed_on _ _ d st breaks g w s
caught_fresh lo hi (Some y) h calls c k scope d st continues g w s = passed_on _ _ d st continues g w s
caught_fresh lo hi (Some y) h calls c k scope d st (returns x) g w s = passed_on _ _ d st (returns x) g w s
caught_fresh lo hi (Some y) (mid, l, n, p) calls c k scope d st (throws site x) g w s =
    catch_scope lo hi d y.name x scope st (block_of y.body calls k) (name_wider lo mid hi y.name p.le n) s
    (λ scope st s. fresh_wider nowhere (Within lo hi) (Within lo hi) (λ n w h. h) (within l (omega arith)) (within l (omega arith)) (p.good calls c k scope d st s))

kept_fresh : (F T : Sites) (d : ℕ) (c : Completion) → GoesOn c → Waits nowhere c → (st : Place) (e : Completion) →
    GoesOn e → Waits nowhere e → Stands d st → Fresh nowhere F T d (moment st) (kept c st e)
kept_fresh F T d c g w st (stops x) h v s = absurd h
kept_fresh F T d c g w st (given x) h v s = passed_on F T d st (given x) h v s
kept_fresh F T d c g w st (refers r) h v s = passed_on F T d st (refers r) h v s
kept_fresh F T d c g w st normal h v s = passed_on F T d st c g w s
kept_fresh F T d c g w st breaks h v s = passed_on F T d st breaks h v s
kept_fresh F T d c g w st continues h v s = passed_on F T d st continues h v s
kept_fresh F T d c g w st (returns x) h v s = passed_on F T d st (returns x) h v s
kept_fresh F T d c g w st (throws site x) h v s = passed_on F T d st (throws site x) h v s

finally_fresh : (lo hi : ℕ) (ms : List (Stmt × Meaning)) → Doing lo hi (block_of ms) → (calls : Calls) →
    CallsFresh calls → (k : ℕ) (scope : Scope) (d : ℕ) (st : Place) (c : Completion) → GoesOn c → Waits nowhere c →
    Stands d st →
    Fresh nowhere (Within lo hi) (Within lo hi) d (moment st) (bind (block_of ms calls k scope st) (kept c))
finally_fresh lo hi ms p calls f k scope d st c g w s =
    fresh_bind nowhere nowhere nowhere (Within lo hi) (Within lo hi) (block_of ms calls k scope st) (kept c) (λ n w h. h) (λ n w h. absurd h) (λ n w h. h) (λ n w h. absurd h) (λ n w h i. i) (omega arith) (λ st x. refl) (p.good calls f k scope d st s) (kept_fresh nowhere nowhere d c g w)

finished_fresh : (lo hi : ℕ) (o : Option (List (Stmt × Meaning))) → FinallyIn lo hi o → (calls : Calls) →
    CallsFresh calls → (k : ℕ) (scope : Scope) (d : ℕ) (st : Place) (c : Completion) → GoesOn c → Waits nowhere c →
    Stands d st → Fresh nowhere (Within lo hi) (Within lo hi) d (moment st) (finished o calls k scope st c)
finished_fresh lo hi o h calls f k scope d st (stops x) g w s = absurd g
finished_fresh lo hi None h calls f k scope d st (given x) g w s = passed_on _ _ d st (given x) g w s
finished_fresh lo hi None h calls f k scope d st (refers r) g w s = passed_on _ _ d st (refers r) g w s
finished_fresh lo hi None h calls f k scope d st normal g w s = passed_on _ _ d st normal g w s
finished_fresh lo hi None h calls f k scope d st breaks g w s = passed_on _ _ d st breaks g w s
finished_fresh lo hi None h calls f k scope d st continues g w s = passed_on _ _ d st continues g w s
finished_fresh lo hi None h calls f k scope d st (returns x) g w s = passed_on _ _ d st (returns x) g w s
finished_fresh lo hi None h calls f k scope d st (throws site x) g w s = passed_on _ _ d st (throws site x) g w s
finished_fresh lo hi (Some ms) h calls f k scope d st (given x) g w s =
    finally_fresh lo hi ms h calls f k scope d st (given x) g w s
finished_fresh lo hi (Some ms) h calls f k scope d st (refers r) g w s =
    finally_fresh lo hi ms h calls f k scope d st (refers r) g w s
finished_fresh lo hi (Some ms) h calls f k scope d st normal g w s =
    finally_fresh lo hi ms h calls f k scope d st normal g w s
finished_fresh lo hi (Some ms) h calls f k scope d st breaks g w s =
    finally_fresh lo hi ms h calls f k scope d st breaks g w s
finished_fresh lo hi (Some ms) h calls f k scope d st continues g w s =
    finally_fresh lo hi ms h calls f k scope d st continues g w s
finished_fresh lo hi (Some ms) h calls f k scope d st (returns x) g w s =
    finally_fresh lo hi ms h calls f k scope d st (returns x) g w s
finished_fresh lo hi (Some ms) h calls f k scope d st (throws site x) g w s =
    finally_fresh lo hi ms h calls f k scope d st (throws site x) g w s

finished_hands : (o : Option (List (Stmt × Meaning))) (calls : Calls) (k : ℕ) (scope : Scope) (st : Place) (x : End) →
    finished o calls k scope st (stops x) ≡ done st (stops x)
finished_hands None calls k scope st x = refl
finished_hands (Some ms) calls k scope st x = refl

pub try_part : (b0 c0 f0 hi : ℕ) (body : Meaning) (catch : Option (Catch (List (Stmt × Meaning))))
    (last : Option (List (Stmt × Meaning))) → Doing b0 c0 body → CatchIn c0 f0 catch → FinallyIn f0 hi last →
    {m : Meaning} → ((calls : Calls) (k : ℕ) (scope : Scope) (st : Place) →
    m calls k scope st ≡ bind (bind (body calls k scope st) (caught catch calls k scope)) (finished last calls k scope)) →
    Doing b0 hi m
try_part b0 c0 f0 hi body catch last b g f {m} is =
    record { le = omega (arith, b.le, mid, low); good = λ calls c k scope d st s. subst (λ r. Fresh nowhere (Within b0 hi) (Within b0 hi) d (moment st) r) (sym (is calls k scope st)) (here calls c k scope d st s) }
  where
    mid : c0 ≤ f0
    mid = catch_le c0 f0 catch g

    low : f0 ≤ hi
    low = finally_le f0 hi last f

    here : (calls : Calls) → CallsFresh calls → (k : ℕ) (scope : Scope) (d : ℕ) → Steps nowhere (Within b0 hi) (Within b0 hi) d (λ st. bind (bind (body calls k scope st) (caught catch calls k scope)) (finished last calls k scope))
    here calls c k scope d st s =
        fresh_bind nowhere (Within f0 hi) (Within f0 hi) (Within b0 hi) (Within b0 hi) (bind (body calls k scope st) (caught catch calls k scope)) (finished last calls k scope)
        (within (omega arith) low) (within (omega (arith, b.le, mid)) (omega arith)) (within (omega arith) low) (within (omega (arith, b.le, mid)) (omega arith)) (λ n w i j. omega (arith, i.1, j.0)) (omega arith) (finished_hands last calls k scope)
        (fresh_bind nowhere (Within c0 f0) (Within c0 f0) (Within b0 f0) (Within b0 f0) (body calls k scope st) (caught catch calls k scope)
        (within (omega arith) mid) (within b.le (omega arith)) (within (omega arith) mid) (within b.le (omega arith)) (λ n w i j. omega (arith, i.1, j.0)) (omega arith) (caught_hands catch calls k scope) (b.good calls c k scope d st s) (caught_fresh c0 f0 catch g calls c k scope d))
        (finished_fresh f0 hi last f calls c k scope d)
