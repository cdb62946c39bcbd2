-- The paths of examples: what is left of a script behind its opened layers is computed.
use Rattle.std.proofs.Common.{◌≡◌, ℕ, suc, ℤ, List, [], ap, ◌∙◌}
use Rattle.path_core.specs.declared.bounds.Bounds.{Bounds}
use Rattle.path_core.specs.declared.bounds.Declared.{Declared}
use Rattle.path_core.specs.declared.bounds.Kind.TheVariants as kinds
use Rattle.path_core.specs.declared.path.InputValue.{InputValue}
use Rattle.path_core.specs.declared.path.Path.{Path}
use Rattle.path_core.specs.declared.path.Event.{Event}
use Rattle.path_core.specs.declared.path.Event.TheVariants.{Pick}
use Rattle.path_core.specs.declared.path.PickKind.TheVariants.{Branch}
use Rattle.path_core.specs.declared.path.End.{End}
use Rattle.js_meaning.specs.Parts.{Meaning}
use Rattle.js_meaning.specs.Meaning.{whole_of, calls_in, outermost}
use Rattle.js_meaning.specs.Path.{start, path_by, path_of, steps_of}
use Rattle.js_meaning.proofs.KnownStatements.{KnownStmt, stmt_trees, known_block, same_block}

-- an input of whole numbers
abbrev pub whole : List ℕ → ℤ → ℤ → Declared
whole name low high = record { name = name; kind = kinds.Int low high }

-- the event of a test
abbrev pub branched : ℕ → ℕ → Event
branched site out = Pick site Branch out 2

abbrev pub bounded : ℕ → List Declared → Bounds
bounded turns inputs =
    record { turns = turns; paths = 1000; candidates = 64; steps = 1000000; width = 20000000; pieces = 1; inputs = inputs }

abbrev pub shown : Path → List Event × End
shown path = (path.events, path.end)

-- the path with so many turns, of inputs with these values
abbrev pub goes : ℕ → List Declared → List InputValue → List KnownStmt → List Event × End
goes turns inputs values ks = shown (path_of (record { body = stmt_trees ks }) (bounded turns inputs) values)

-- the nodes that its run uses
abbrev pub uses : ℕ → List Declared → List InputValue → List KnownStmt → ℕ
uses turns inputs values ks = steps_of (record { body = stmt_trees ks }) (bounded turns inputs) values

abbrev pub runs : ℕ → List Declared → List InputValue → List KnownStmt → List Event × End
runs turns inputs values ks =
    shown (path_by (known_block ks (calls_in (suc turns)) turns outermost (start (bounded turns inputs) values [])))

abbrev pub counts : ℕ → List Declared → List InputValue → List KnownStmt → ℕ
counts turns inputs values ks =
    (known_block ks (calls_in (suc turns)) turns outermost (start (bounded turns inputs) values [])).1.0.nodes

pub path_is : {r : List Event × End} (turns : ℕ) (inputs : List Declared) (values : List InputValue) (ks : List KnownStmt) → runs turns inputs values ks ≡ r → goes turns inputs values ks ≡ r
unfolding whole_of
path_is turns inputs values ks p =
    ap (λ (m : Meaning). shown (path_by (m (calls_in (suc turns)) turns outermost (start (bounded turns inputs) values [])))) (same_block ks) ∙ p

pub steps_are : {n : ℕ} (turns : ℕ) (inputs : List Declared) (values : List InputValue) (ks : List KnownStmt) →
    counts turns inputs values ks ≡ n → uses turns inputs values ks ≡ n
unfolding whole_of
steps_are turns inputs values ks p =
    ap (λ (m : Meaning). (m (calls_in (suc turns)) turns outermost (start (bounded turns inputs) values [])).1.0.nodes) (same_block ks) ∙ p
