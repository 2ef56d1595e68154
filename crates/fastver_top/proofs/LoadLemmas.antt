-- A load asks what a line of a script can ask, and what serving it does, by how it ends.
use Rattle.std.proofs.Common.{◌≡◌, ◌⊎◌, ℕ, zero, suc, ◌+◌, ◌*◌, ◌^◌, ◌/◌, ◌%◌, ◌<◌, ◌≤◌, Bool, true, false, nat_lt, List, [], ◌∷◌, ◌++◌, length, get_or, Option, Some, None, Ok, Err, inl, inr, refl, sym, subst, arith, if◌then◌else◌}
use Rattle.std.specs.Int.{w64, bytes_high_first, byte_at, to_be_bytes}
use Rattle.std.specs.List.{AllByRecursion, onto_first}
use Rattle.std.specs.Option.{ForSome}
use Rattle.std.proofs.lemmas.Bool.{false≢true}
use Rattle.std.proofs.lemmas.Nat.{mod_below}
use Rattle.fv_outside.specs.Faults.{Rose}
use Rattle.tree_keys.specs.Path.{key_bits}
use Rattle.lamport_clocks.specs.declared.header.Header.{Header}
use Rattle.record_hash.specs.Functions.{DigestFunctions}
use Rattle.record_text.specs.Longest.{longest_blob, longest_of}
use Rattle.record_text.specs.Tree.{wide_of}
use Rattle.record_text.specs.declared.request.Request.{Request}
use Rattle.record_text.proofs.FieldLaws.{AreBytes}
use Rattle.program_words.specs.declared.load_words.GenWords.{GenWords}
use Rattle.report_text.specs.declared.status.Status.TheVariants as statuses
use Rattle.report_text.specs.Answer.{IsEnd, Writing}
use Rattle.report_text.specs.Ending.{failure_status}
use Rattle.script_text.specs.declared.shape.Shape.{Shape}
use Rattle.script_text.specs.declared.task.Task.{Task}
use Rattle.script_text.specs.declared.task.Line.{Line}
use Rattle.script_text.specs.declared.task.Line.TheVariants as said
use Rattle.script_text.specs.Script.{phases_of}
use Rattle.script_text.specs.Text.{IsTask, AreTasks}
use Rattle.script_text.specs.Generator.{key_for, request_for, task_for, closes_behind, close_behind, lines_made}
use Rattle.fv_outside.specs.declared.failure.Failure.{Failure}
use Rattle.fv_outside.specs.declared.failure.Failure.TheVariants as failures
use Rattle.verifier_threads.specs.declared.ending.RunEnd.{RunEnd}
use Rattle.verifier_threads.specs.declared.ending.RunEnd.TheVariants as ends
use Rattle.verifier_threads.specs.Serving.{Outputs, IsCutOff, IsCutAtEnd, ServesTo, status_at}
use Rattle.check_core.specs.Sealing.{Keeping}
use Rattle.fastver_top.specs.Running.{header_for, settings_for, outputs_of, IsNamedFor, IsUntouched}
use Rattle.fastver_top.specs.Generating.{shape_for, script_for, account_for, GensTo}

-- ---- what a load asks

-- the bytes of a number are bytes
bytes_fit : (k n i : ℕ) → get_or (bytes_high_first k n) i 0 < 256
bytes_fit zero n zero = omega arith
bytes_fit zero n (suc i) = omega arith
bytes_fit (suc k) n zero = byte_fits k n
  where
    byte_fits : (at n : ℕ) → byte_at at n < 256
    byte_fits zero n = mod_below n 256 (omega arith)
    byte_fits (suc at) n = mod_below (n / 256 ^ suc at) 256 (omega arith)
bytes_fit (suc k) n (suc i) = bytes_fit k n i

-- what a line can ask, whatever the header
abbrev IsAskable : Request → Type 0
IsAskable request =
    (request.key < 2 ^ 64) × ForSome request.value (λ bytes. length bytes ≤ 8) × ForSome request.value AreBytes
    × (request.put ≡ false → request.value ≡ None)

-- a get, a put of eight bytes and a put of none
abbrev get_of : ℕ → Request
get_of key = record { put = false; key = key; value = None }

abbrev put_of : ℕ → ℕ → Request
put_of key draw = record { put = true; key = key; value = Some (to_be_bytes w64 draw) }

abbrev del_of : ℕ → Request
del_of key = record { put = true; key = key; value = None }

get_asked : (key : ℕ) → key < 2 ^ 64 → IsAskable (get_of key)
get_asked key fits = (fits, λ bytes is. absurd (cc), λ bytes is. absurd (cc), λ _. refl)

put_asked : (key draw : ℕ) → key < 2 ^ 64 → IsAskable (put_of key draw)
put_asked key draw fits = (
  fits,
  λ bytes is. let same : to_be_bytes w64 draw ≡ bytes = cc in subst (λ (b : List ℕ). length b ≤ 8) same (omega arith),
  λ bytes is. let same : to_be_bytes w64 draw ≡ bytes = cc in subst AreBytes same (bytes_fit 8 draw),
  λ is. absurd (false≢true (sym is)),
)

del_asked : (key : ℕ) → key < 2 ^ 64 → IsAskable (del_of key)
del_asked key fits = (fits, λ bytes is. absurd (cc), λ bytes is. absurd (cc), λ is. absurd (false≢true (sym is)))

asked_for : (key draw : ℕ) → key < 2 ^ 64 → IsAskable (request_for key draw)
unfolding request_for
asked_for key draw fits = go (nat_lt (draw / 2 ^ 60) 8) (nat_lt (draw / 2 ^ 60) 15)
  where
    go : (get put : Bool) → IsAskable (if get then get_of key else if put then put_of key draw else del_of key)
    go true true = get_asked key fits
    go true false = get_asked key fits
    go false true = put_asked key draw fits
    go false false = del_asked key fits

key_fits : (shape : Shape) (worker draw : ℕ) → key_for shape worker draw < 2 ^ 64
unfolding key_for
key_fits shape worker draw =
    mod_below ((draw / 2 ^ 33 % shape.keys * shape.verifiers + worker) * 11400714819323198485) (2 ^ 64) (omega arith)

-- a key of 64 bits is one of either tree, and eight bytes are a value in each version
key_in_tree : (wide : Bool) (key : ℕ) → key < 2 ^ 64 → key < 2 ^ key_bits wide
key_in_tree false key fits = fits
key_in_tree true key fits = omega (arith, fits)

few_longest : (header : Header) → 8 ≤ longest_of header
few_longest header = go (nat_lt header.version 3)
  where
    go : (early : Bool) → 8 ≤ (if early then 64 else longest_blob)
    go true = omega arith
    go false = omega arith

few_bytes : (longest : ℕ) (value : Option (List ℕ)) → 8 ≤ longest → ForSome value (λ bytes. length bytes ≤ 8) → ForSome value (λ bytes. length bytes ≤ longest)
few_bytes longest value room few bytes is = omega (arith, room, few bytes is)

task_fits : (header : Header) (shape : Shape) (number first second : ℕ) → shape.verifiers ≡ header.verifiers → 0 < shape.verifiers
    → IsTask header (task_for shape number first second)
unfolding task_for
task_fits header shape number first second same some =
    let asked = asked_for (key_for shape (number % shape.verifiers) first) second (key_fits shape (number % shape.verifiers) first) in
    record {
      worker = omega (arith, same, mod_below number shape.verifiers some);
      key = key_in_tree (wide_of header) _ asked.0;
      size = few_bytes (longest_of header) _ (few_longest header) asked.1;
      bytes = asked.2;
      get = asked.3;
    }

-- what a line says can be asked
abbrev IsSaid : Header → Line → Type 0
IsSaid header (said.Task task) = IsTask header task
IsSaid header said.Epoch = Unit {0}

both-said : (header : Header) (front back : List Line) → AllByRecursion (IsSaid header) front → AllByRecursion (IsSaid header) back
    → AllByRecursion (IsSaid header) (front ++ back)
both-said header [] back fronts backs = backs
both-said header (line ∷ front) back fronts backs = (fronts.0, both-said header front back fronts.1 backs)

close-said : (header : Header) (shape : Shape) (count : ℕ) → AllByRecursion (IsSaid header) (close_behind shape count)
unfolding close_behind
close-said header shape count = go (closes_behind shape count)
  where
    go : (closes : Bool) → AllByRecursion (IsSaid header) (if closes then said.Epoch ∷ [] else [])
    go true = (tt, tt)
    go false = tt

made-said : (header : Header) (x : ℕ) (shape : Shape) (count : ℕ) → shape.verifiers ≡ header.verifiers → 0 < shape.verifiers
    → AllByRecursion (IsSaid header) (lines_made x shape count)
unfolding lines_made
made-said header x shape zero same some = tt
made-said header x shape (suc count) same some =
    both-said header (lines_made x shape count) _ (made-said header x shape count same some)
    (task_fits header shape count _ _ same some, close-said header shape (suc count))

onto-asked : (header : Header) (task : Task) (phases : List (List Task)) → IsTask header task → AreTasks header phases → AreTasks header (onto_first task phases)
onto-asked header task [] own are = ((own, tt), tt)
onto-asked header task (phase ∷ phases) own are = ((own, are.0), are.1)

phases-asked : (header : Header) (lines : List Line) → AllByRecursion (IsSaid header) lines → AreTasks header (phases_of lines)
unfolding phases_of
phases-asked header [] are = (tt, tt)
phases-asked header (said.Epoch ∷ lines) are = (tt, phases-asked header lines are.1)
phases-asked header (said.Task task ∷ lines) are = onto-asked header task (phases_of lines) are.0 (phases-asked header lines are.1)

-- Each of its tasks is one that a line can ask.
pub load-asks : (words : GenWords) → 0 < words.numbers.verifiers → AreTasks (header_for words.numbers) (script_for words)
load-asks words some =
    phases-asked (header_for words.numbers) (lines_made words.load.seed (shape_for words) words.load.ops)
    (made-said (header_for words.numbers) words.load.seed (shape_for words) words.load.ops refl some)

-- ---- how it ends

module _ (functions : DigestFunctions) (words : GenWords) (writing : Writing) (keeping : Keeping) where
  abbrev own_outputs : Outputs
  own_outputs = outputs_of writing keeping

  -- memory was wanting
  pub gens-memory : IsUntouched keeping.name keeping.name_after own_outputs ⊎ IsCutOff (account_for words.load) functions (settings_for words.numbers) (script_for words) own_outputs
      → IsNamedFor words.logs keeping.name keeping.name_after ⊎ IsUntouched keeping.name keeping.name_after own_outputs
      → GensTo functions words statuses.Memory writing keeping
  gens-memory before named = record {
    summed = λ end. absurd end;
    before = λ _. before;
    cut = λ is. absurd (cc);
    named = named;
    named_at_end = λ is. absurd (not_end is);
    write_fault = λ is. absurd (cc);
    vault_fault = λ is. absurd (cc);
  }
    where
      not_end : IsEnd statuses.Memory ⊎ (statuses.Memory ≡ statuses.WriteFault) → ⊥
      not_end (inl is) = is
      not_end (inr is) = cc

  -- nothing was done
  pub gens-nothing : IsUntouched keeping.name keeping.name_after own_outputs → GensTo functions words statuses.Memory writing keeping
  gens-nothing untouched = gens-memory (inl untouched) (inr untouched)

  -- the vault failed
  gens-vault_fault : IsCutOff (account_for words.load) functions (settings_for words.numbers) (script_for words) own_outputs
      → IsNamedFor words.logs keeping.name keeping.name_after ⊎ IsUntouched keeping.name keeping.name_after own_outputs
      → Rose keeping.faults keeping.faults_after → GensTo functions words statuses.VaultFault writing keeping
  gens-vault_fault before named rose = record {
    summed = λ end. absurd end;
    before = λ _. inr before;
    cut = λ is. absurd (cc);
    named = named;
    named_at_end = λ is. absurd (not_end is);
    write_fault = λ is. absurd (cc);
    vault_fault = λ _. rose;
  }
    where
      not_end : IsEnd statuses.VaultFault ⊎ (statuses.VaultFault ≡ statuses.WriteFault) → ⊥
      not_end (inl is) = is
      not_end (inr is) = cc

  -- the sink failed
  gens-write_fault : IsCutAtEnd (account_for words.load) functions (settings_for words.numbers) (script_for words) own_outputs
      → IsNamedFor words.logs keeping.name keeping.name_after → Rose writing.faults writing.faults_after
      → GensTo functions words statuses.WriteFault writing keeping
  gens-write_fault cut named rose = record {
    summed = λ end. absurd end;
    before = λ is. absurd (neither is);
    cut = λ _. cut;
    named = inl named;
    named_at_end = λ _. named;
    write_fault = λ _. rose;
    vault_fault = λ is. absurd (cc);
  }
    where
      neither : (statuses.WriteFault ≡ statuses.Memory) ⊎ (statuses.WriteFault ≡ statuses.VaultFault) → ⊥
      neither (inl is) = cc
      neither (inr is) = cc

  -- it was not served to its end
  pub gens-stopped : (stop : Failure) → ServesTo (account_for words.load) functions (settings_for words.numbers) (script_for words) (Err stop) own_outputs
      → ((stop ≡ failures.VaultFault → ⊥) → IsNamedFor words.logs keeping.name keeping.name_after)
      → IsNamedFor words.logs keeping.name keeping.name_after ⊎ IsUntouched keeping.name keeping.name_after own_outputs
      → (stop ≡ failures.VaultFault → Rose keeping.faults keeping.faults_after) → (stop ≡ failures.WriteFault → Rose writing.faults writing.faults_after)
      → GensTo functions words (failure_status 0 stop) writing keeping
  gens-stopped failures.Memory sums named first vault out = gens-memory (inr sums) first
  gens-stopped failures.ReadFault sums named first vault out = absurd sums
  gens-stopped failures.InputLimit sums named first vault out = absurd sums
  gens-stopped failures.VaultFault sums named first vault out = gens-vault_fault sums.0 first (vault refl)
  gens-stopped failures.WriteFault sums named first vault out = gens-write_fault sums (named (λ is. cc)) (out refl)

  -- it was
  pub gens-served : (end : RunEnd) → ServesTo (account_for words.load) functions (settings_for words.numbers) (script_for words) (Ok end) own_outputs
      → IsNamedFor words.logs keeping.name keeping.name_after → GensTo functions words (status_at end) writing keeping
  gens-served (ends.Done epochs) sums named = record {
    summed = λ _. record { end = ends.Done epochs; is = refl; summed = sums };
    before = λ is. absurd (neither is);
    cut = λ is. absurd (cc);
    named = inl named;
    named_at_end = λ _. named;
    write_fault = λ is. absurd (cc);
    vault_fault = λ is. absurd (cc);
  }
    where
      neither : (statuses.Done epochs ≡ statuses.Memory) ⊎ (statuses.Done epochs ≡ statuses.VaultFault) → ⊥
      neither (inl is) = cc
      neither (inr is) = cc
  gens-served (ends.ClockEnd clock) sums named = record {
    summed = λ _. record { end = ends.ClockEnd clock; is = refl; summed = sums };
    before = λ is. absurd (neither is);
    cut = λ is. absurd (cc);
    named = inl named;
    named_at_end = λ _. named;
    write_fault = λ is. absurd (cc);
    vault_fault = λ is. absurd (cc);
  }
    where
      neither : (statuses.ClockEnd clock.worker clock.at ≡ statuses.Memory) ⊎ (statuses.ClockEnd clock.worker clock.at ≡ statuses.VaultFault) → ⊥
      neither (inl is) = cc
      neither (inr is) = cc
