-- What reading a block answers.
use Rattle.std.proofs.Common.{◌≡◌, ◌≤◌, ℕ, ◌+◌, ◌-◌, List, ◌++◌, length, take, drop, refl, sym, ap, subst, ◌∙◌, arith, append_assoc, length-append}
use Rattle.std.specs.Prelude.{Ok, Err}
use Rattle.std.proofs.lemmas.List.{take_at}
use Rattle.std.proofs.Math.Seq.{drop-append_seam}
use Rattle.std.proofs.lemmas.List.{take-append-drop}
use Rattle.cnf_core.specs.declared.clauses.Cnf.{Cnf}
use Rattle.cnf_core.specs.declared.clauses.Derivation.{Derivation}
use Rattle.proof_text.specs.Answers.{spelling, HasSpelling, IsRead, line_ends}
use Rattle.proof_text.specs.Refusals.{IsFirstWrong}
use Rattle.proof_text.specs.BlockReading.{block_at}
use Rattle.proof_text.specs.declared.block.Block.{Block}
use Rattle.proof_text.proofs.Whole.{whole_ends}
use Rattle.proof_text.proofs.Refusing.{Refused, first_wrong}
use Rattle.proof_text.proofs.BlockLines.{Read, ok_block, block_sound, block_complete, block_refused}

-- the lines that end before the rest of a list
pub before_rest : {X : Type 0} (text : X → List ℕ) (is_spelt : X → Type 0) (list rest : List ℕ) → ((x : X) (behind : List ℕ) → is_spelt x → text x ++ behind ≡ list → ⊥) → (r : Refused text is_spelt list rest) (line : ℕ) → line ≡ line_ends (take (length list - length rest) list) + 1 → (length rest ≤ length list) × IsFirstWrong text is_spelt list line
before_rest text is_spelt list rest never r line e =
    let sizes : length list ≡ length r.before + length rest = ap length (sym r.list_is) ∙ length-append r.before rest in
    let n : length list - length rest ≡ length r.before = omega (arith, sizes) in
    let front : take (length list - length rest) list ≡ r.before =
    ap (λ (q : List ℕ). take (length list - length rest) q) (sym r.list_is) ∙ take_at r.before rest (length list - length rest) (sym n) in
    (omega (arith, sizes), first_wrong text is_spelt list rest never r line (e ∙ ap (λ (q : List ℕ). line_ends q + 1) front ∙ ap (λ (q : ℕ). q + 1) (whole_ends r.lines r.before r.whole)))

no_block : (list rest : List ℕ) → block_at list ≡ Err rest → (b : Cnf × Derivation) (behind : List ℕ) → HasSpelling b → spelling b ++ behind ≡ list → ⊥
no_block list rest e b behind h k = ok_err (b, behind) (sym (block_complete b behind h) ∙ ap block_at k ∙ e)
  where
    ok_err : (q : (Cnf × Derivation) × List ℕ) → ◌≡◌ {A = Read} (Ok q) (Err rest) → ⊥
    ok_err q e = absurd cc

pub shorter_wrong : (list rest : List ℕ) → block_at list ≡ Err rest → length rest ≤ length list
shorter_wrong list rest e = (before_rest spelling HasSpelling list rest (no_block list rest e) (block_refused list rest e) _ refl).0

pub answers_line : (list rest : List ℕ) → block_at list ≡ Err rest → (line : ℕ) → line ≡ line_ends (take (length list - length rest) list) + 1 → IsFirstWrong spelling HasSpelling list line
answers_line list rest e line h = (before_rest spelling HasSpelling list rest (no_block list rest e) (block_refused list rest e) line h).1

pub shorter_rest : (bytes : List ℕ) (at : ℕ) (b : Cnf × Derivation) (rest : List ℕ) → block_at (drop at bytes) ≡ Ok (b, rest) → length rest ≤ length bytes
shorter_rest bytes at b rest e =
    let s = block_sound (drop at bytes) b rest e in
    omega (arith, ap length s.1, length-append (spelling b) rest, ap length (take-append-drop at bytes), length-append (take at bytes) (drop at bytes))

pub answers_block : (bytes : List ℕ) (at : ℕ) (b : Cnf × Derivation) (rest : List ℕ) (block : Block) → block_at (drop at bytes) ≡ Ok (b, rest) → block.cnf ≡ b.0 → block.derivation ≡ b.1 → block.end ≡ length bytes - length rest → IsRead bytes at block
answers_block bytes at b rest block e c d f =
    let s = block_sound (drop at bytes) b rest e in
    let same : b ≡ (block.cnf, block.derivation) = pair_same (sym c) (sym d) in
    let whole : (take at bytes ++ spelling b) ++ rest ≡ bytes =
    append_assoc (take at bytes) (spelling b) rest ∙ ap (λ (q : List ℕ). take at bytes ++ q) s.1 ∙ take-append-drop at bytes in
    let sizes = ap length (sym whole) ∙ length-append (take at bytes ++ spelling b) rest in
    let n : block.end ≡ length (take at bytes ++ spelling b) = omega (arith, f, sizes) in
    let behind : drop block.end bytes ≡ rest =
    ap (λ (q : ℕ). drop q bytes) n ∙ ap (λ (q : List ℕ). drop (length (take at bytes ++ spelling b)) q) (sym whole) ∙ drop-append_seam (take at bytes ++ spelling b) rest in
    record {
      spelt = subst HasSpelling same s.0;
      ends = omega (arith, f);
      text = ap (λ (q : List ℕ). spelling (block.cnf, block.derivation) ++ q) behind ∙ ap (λ (q : Cnf × Derivation). spelling q ++ rest) (sym same) ∙ s.1;
      alone = λ a left h k. ap (λ (q : (Cnf × Derivation) × List ℕ). q.0) (ok_block (a, left) (b, rest) (sym (block_complete a left h) ∙ ap block_at k ∙ e)) ∙ same;
    }
  where
    pair_same : b.0 ≡ block.cnf → b.1 ≡ block.derivation → b ≡ (block.cnf, block.derivation)
    pair_same h k = ap (λ (q : Cnf). (q, b.1)) h ∙ ap (λ (q : Derivation). (block.cnf, q)) k
