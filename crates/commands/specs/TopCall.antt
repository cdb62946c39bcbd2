-- What a run answers, by its words and files, and what it writes. The texts stand in `src/texts.rt`.
use Rattle.std.specs.Prelude.{◌≡◌, ◌≢◌, ◌⊎◌, ℕ, ◌+◌, ◌<◌, ◌≤◌, List, [], ◌∷◌, ◌++◌, length, codes, decimal, bytes_eq, cond, map, true, false, Option, Some, None, Ok, Err}
use Rattle.std.specs.Global.{Vec}
use Rattle.std.specs.Io.KnownBytes.{Appends}
use Rattle.js_units.specs.Quoted.{quoted}
use Rattle.ex_base.specs.Outside.{Told, holds, Asked, IsWhole, IsLonger, Rose, IsCut}
use Rattle.path_core.specs.declared.bounds.Bounds.{Bounds}
use Rattle.path_core.specs.declared.bounds.BoundsRefusal.{BoundsRefusal}
use Rattle.path_core.specs.declared.bounds.BoundsRefusal.TheVariants as refusal
use Rattle.path_core.specs.Form.{form}
use Rattle.path_core.specs.Inputs.{within}
use Rattle.js_ast.specs.declared.statement.Script.{Script}
use Rattle.js_parser.specs.Refusals.{IsReason}
use Rattle.js_parser.specs.Spelling.{Spells}
use Rattle.js_parser.specs.declared.refusal.ScriptRefusal.{ScriptRefusal}
use Rattle.js_parser.specs.declared.refusal.ScriptRefusal.TheVariants as reason
use Rattle.report_text.specs.declared.report.Report.{Report}
use Rattle.report_text.specs.Lines.{report_text}
use Rattle.explorer.specs.Listing.{max_inputs, IsListed}
use Rattle.commands.specs.declared.texts.TheConstants.{USAGE, READ_FAULT, TOO_LONG, BOUNDS_REFUSED, TOO_MANY, JSON, VERSION, FIELD, RANGE, ALPHABET, SCRIPT_REFUSED, UTF8, SYNTAX, NUMBER, NAME, DEPTH, LINE_END}

abbrev pub Name : Type 0
Name = List ℕ

-- `list SCRIPT BOUNDS`: the two files
unfoldable pub listed_files : List Name → Option (Name × Name)
listed_files (word ∷ script ∷ bounds ∷ []) = cond (bytes_eq word (codes "list")) (Some (script, bounds)) None
listed_files _ = None

-- the most bytes of a script or of a bounds file
abbrev pub max_file : ℕ
max_file = 1048576

abbrev pub usage : List ℕ
usage = USAGE.now

-- what a run knows of the files: what they hold, the last load behind it, and the count of faults before and behind it
pub record Seen : Type 0 where
  pub held : Name → Told
  pub last : Option Asked
  pub before : ℕ
  pub now : ℕ

abbrev pub seen_by : (Name → Told) → Option Asked → ℕ → ℕ → Seen
seen_by held last before now = record { held = held; last = last; before = before; now = now }

-- the words, as lists of bytes
abbrev pub names : List (Vec ℕ) → List Name
names words = map (λ w. w.items) words

-- ---- the words are no form

pub record IsUsage (words : List Name) (seen : Seen) (number : ℕ) (text : List ℕ) : Type 0 where
  pub none : listed_files words ≡ None
  pub number_is : number ≡ 2
  pub text_is : text ≡ usage
  pub faults : seen.now ≡ seen.before

-- ---- a file that isn't read

-- a file is held within the limit, where that is told
abbrev pub IsReadable : Seen → Name → Type 0
IsReadable seen name = (bytes : List ℕ) × IsWhole (seen.held name) bytes × (length bytes ≤ max_file)

abbrev pub AreReadable : Seen → List Name → Type 0
AreReadable seen [] = Unit {0}
AreReadable seen (name ∷ names) = IsReadable seen name × AreReadable seen names

-- the file at a place among the files of the words, counted from 1; those before it are readable
pub record IsFile (words : List Name) (seen : Seen) (place : ℕ) (name : Name) : Type 0 where
  pub earlier : List Name
  pub later : List Name
  pub place_is : place ≡ length earlier + 1
  pub files : (files : Name × Name) × (listed_files words ≡ Some files) × (files.0 ∷ files.1 ∷ [] ≡ earlier ++ name ∷ later)
  pub readable : AreReadable seen earlier

-- its load failed
pub record IsReadFault (words : List Name) (seen : Seen) (number : ℕ) (text : List ℕ) : Type 0 where
  pub place : ℕ
  pub name : Name
  pub file : IsFile words seen place name
  pub last : (took : ℕ) × (seen.last ≡ Some (record { name = name; most = max_file; took = took; failed = true }))
  pub rose : Rose seen.before seen.now
  pub number_is : number ≡ 3
  pub text_is : text ≡ READ_FAULT.now ++ decimal place ++ LINE_END.now

-- it has more bytes than the limit
pub record IsTooLong (words : List Name) (seen : Seen) (number : ℕ) (text : List ℕ) : Type 0 where
  pub place : ℕ
  pub name : Name
  pub file : IsFile words seen place name
  pub longer : IsLonger (seen.held name) max_file
  pub last : seen.last ≡ Some (record { name = name; most = max_file; took = max_file + 1; failed = false })
  pub faults : seen.now ≡ seen.before
  pub number_is : number ≡ 8
  pub text_is : text ≡ TOO_LONG.now ++ decimal place ++ LINE_END.now

-- ---- both files are read: the answer to their bytes

-- json, version, field NAME, range NAME or alphabet NAME
abbrev pub refusal_text : BoundsRefusal → List ℕ
refusal_text refusal.Json = JSON.now
refusal_text refusal.Version = VERSION.now
refusal_text (refusal.Field name) = FIELD.now ++ quoted name
refusal_text (refusal.Range name) = RANGE.now ++ quoted name
refusal_text (refusal.Alphabet name) = ALPHABET.now ++ quoted name
refusal_text refusal.NoMemory = []

-- no bounds stand in the second file
pub record IsBoundsRefused (bounds : List ℕ) (number : ℕ) (text : List ℕ) : Type 0 where
  pub refused : BoundsRefusal
  pub none : form bounds ≡ Err refused
  pub number_is : number ≡ 6
  pub text_is : text ≡ BOUNDS_REFUSED.now ++ refusal_text refused ++ LINE_END.now

-- the bounds have more inputs than are listed
pub record IsTooMany (bounds : List ℕ) (number : ℕ) (text : List ℕ) : Type 0 where
  pub accepted : Bounds
  pub formed : form bounds ≡ Ok accepted
  pub many : max_inputs < length (within accepted.inputs)
  pub number_is : number ≡ 6
  pub text_is : text ≡ BOUNDS_REFUSED.now ++ TOO_MANY.now ++ LINE_END.now

-- bounds stand, with few enough inputs to list
pub record AreListable (bounds : List ℕ) (accepted : Bounds) : Type 0 where
  pub formed : form bounds ≡ Ok accepted
  pub few : length (within accepted.inputs) ≤ max_inputs

-- a place, and then utf8, syntax, number, name or depth
abbrev pub reason_text : ScriptRefusal → List ℕ
reason_text (reason.Utf8 at) = decimal at ++ UTF8.now
reason_text (reason.Syntax at) = decimal at ++ SYNTAX.now
reason_text (reason.WideNumber at) = decimal at ++ NUMBER.now
reason_text (reason.EarlyName at) = decimal at ++ NAME.now
reason_text (reason.TooDeep at) = decimal at ++ DEPTH.now
reason_text reason.NoMemory = []

-- no script stands in the first file, and the reason that comes first is told with its place
pub record IsScriptRefused (script bounds : List ℕ) (number : ℕ) (text : List ℕ) : Type 0 where
  pub accepted : Bounds
  pub formed : AreListable bounds accepted
  pub none : (s : Script) → ¬ Spells script s
  pub refused : ScriptRefusal
  pub reason : IsReason script refused
  pub number_is : number ≡ 5
  pub text_is : text ≡ SCRIPT_REFUSED.now ++ reason_text refused

-- the paths are listed
pub record IsListing (script bounds : List ℕ) (number : ℕ) (text : List ℕ) : Type 0 where
  pub spelt : Script
  pub accepted : Bounds
  pub report : Report
  pub spells : Spells script spelt
  pub formed : AreListable bounds accepted
  pub listed : IsListed spelt accepted report
  pub number_is : number ≡ 0
  pub text_is : text ≡ report_text report

-- the answer of `list` to the bytes of a script and of bounds
abbrev pub ListAnswer : List ℕ → List ℕ → ℕ → List ℕ → Type 0
ListAnswer script bounds number text =
    IsBoundsRefused bounds number text ⊎ (IsTooMany bounds number text ⊎ (IsScriptRefused script bounds number text ⊎ IsListing script bounds number text))

pub record IsAnswered (words : List Name) (seen : Seen) (number : ℕ) (text : List ℕ) : Type 0 where
  pub files : Name × Name
  pub words_are : listed_files words ≡ Some files
  pub script : List ℕ
  pub bounds : List ℕ
  pub script_is : IsWhole (seen.held files.0) script
  pub bounds_is : IsWhole (seen.held files.1) bounds
  pub script_fits : length script ≤ max_file
  pub bounds_fits : length bounds ≤ max_file
  pub last : seen.last ≡ Some (record { name = files.1; most = max_file; took = length bounds; failed = false })
  pub faults : seen.now ≡ seen.before
  pub answer : ListAnswer script bounds number text

-- ---- the whole

-- what is decided before anything is written
abbrev pub IsDecided : List Name → Seen → ℕ → List ℕ → Type 0
IsDecided words seen number text = IsUsage words seen number text ⊎ (IsReadFault words seen number text ⊎ (IsTooLong words seen number text ⊎ IsAnswered words seen number text))

-- this text was written, whole
abbrev pub Writes : (List ℕ → Type 0) → Option (List ℕ) → Option (List ℕ) → Type 0
Writes P old new = (text : List ℕ) × P text × Appends old new text

-- a front of what was decided was written, and not all of it, since the sink failed
pub record IsWriteFault (words : List Name) (seen : Seen) (old new : Option (List ℕ)) (before now : ℕ) : Type 0 where
  pub number : ℕ
  pub text : List ℕ
  pub part : List ℕ
  pub decided : IsDecided words seen number text
  pub cut : IsCut part text
  pub written : Appends old new part
  pub rose : Rose before now

-- ---- what is told of `list`

-- where the words are `list SCRIPT BOUNDS` and the files tell these bytes
pub record ToldList (words : List Name) (held : Name → Told) (script bounds : List ℕ) : Type 0 where
  pub files : Name × Name
  pub words_are : listed_files words ≡ Some files
  pub script_is : held files.0 ≡ holds script
  pub bounds_is : held files.1 ≡ holds bounds

-- and each is within the limit
pub record HeldList (words : List Name) (held : Name → Told) (script bounds : List ℕ) : Type 0 where
  pub told : ToldList words held script bounds
  pub script_fits : length script ≤ max_file
  pub bounds_fits : length bounds ≤ max_file

-- a status that no fault of the outside and no want of memory gives
pub record IsUnfailed (number : ℕ) : Type 0 where
  pub no_read_fault : number ≢ 3
  pub no_write_fault : number ≢ 4
  pub memory : number ≢ 7

-- no bounds stand in the bytes, or they have more inputs than are listed
abbrev pub AreNoBounds : List ℕ → Type 0
AreNoBounds bounds = ((refused : BoundsRefusal) × (form bounds ≡ Err refused)) ⊎ ((accepted : Bounds) × (form bounds ≡ Ok accepted) × (max_inputs < length (within accepted.inputs)))

-- the bounds are accepted, and the bytes spell no script
abbrev pub IsNoScript : List ℕ → List ℕ → Type 0
IsNoScript script bounds = (accepted : Bounds) × AreListable bounds accepted × ((s : Script) → ¬ Spells script s)

-- the bounds are accepted, and there is this reason against the script; no bytes have two
pub record IsBadScript (script bounds : List ℕ) (refused : ScriptRefusal) : Type 0 where
  pub accepted : Bounds
  pub formed : AreListable bounds accepted
  pub reason : IsReason script refused

-- both are accepted
abbrev pub AreAccepted : List ℕ → List ℕ → Type 0
AreAccepted script bounds = (accepted : Bounds) × (spelt : Script) × AreListable bounds accepted × Spells script spelt

-- the first file that is told to be longer than the limit, behind those that are held within it
abbrev pub IsOverlong : List Name → (Name → Told) → Type 0
IsOverlong words held =
    (files : Name × Name) × (listed_files words ≡ Some files)
    × (((script : List ℕ) × (held files.0 ≡ holds script) × (max_file < length script))
    ⊎ ((script bounds : List ℕ) × (held files.0 ≡ holds script) × (length script ≤ max_file) × (held files.1 ≡ holds bounds) × (max_file < length bounds)))
