-- This project's own: what is answered about the names of a script.
use Rattle.std.specs.Prelude.{◌≡◌, List, [], Some, Result, Ok, Err}
use Rattle.js_ast.specs.declared.statement.Script.{Script}
use Rattle.js_ast.specs.declared.statement.Stmt.{Stmt}
use Rattle.js_early.specs.Early.{early_places, IsLeast}
use Rattle.js_parser.specs.declared.refusal.ScriptRefusal.{ScriptRefusal}
use Rattle.js_parser.specs.declared.refusal.ScriptRefusal.TheVariants as refusal

abbrev pub IsNamedBy : List Stmt → Result Script ScriptRefusal → Type 0
IsNamedBy body (Ok script) = (script.body ≡ body) × (early_places script ≡ [])
IsNamedBy body (Err (refusal.EarlyName at)) = IsLeast (early_places (record { body = body })) (Some at)
IsNamedBy body (Err refusal.NoMemory) = Unit {0}
IsNamedBy body (Err e) = ⊥
