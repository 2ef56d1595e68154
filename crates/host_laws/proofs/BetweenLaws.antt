-- An element that is taken in, what is done behind it, and its path that is handed out again.
use Rattle.std.proofs.Common.{◌≡◌, ℕ, suc, ◌+◌, ◌<◌, ◌≤◌, Bool, true, false, not, List, [], ◌∷◌, ◌++◌, length, nat_le, Option, Some, None, is_some, Result, Ok, Err, if◌then◌else◌, refl, sym, ◌∙◌, ap, inl, inr, arith}
use Rattle.std.proofs.lemmas.Bool.{false≢true}
use Rattle.std.proofs.lemmas.Bool.Decides.{nat_tests}
use Rattle.tree_keys.specs.Path.{depth, same_path}
use Rattle.tree_keys.proofs.PathLaws.{same_path-apart}
use Rattle.tree_keys.proofs.SideLaws.{is_prefix-self}
use Rattle.lamport_clocks.specs.declared.clock.ClockFault.{ClockFault}
use Rattle.lamport_clocks.specs.Reading.{Reading}
use Rattle.lamport_clocks.specs.Clock.{is_open, received, sent}
use Rattle.record_text.specs.declared.element.Element.{Element}
use Rattle.record_text.specs.declared.value.Value.{Value}
use Rattle.record_text.specs.declared.refusal.Refusal.{Refusal}
use Rattle.record_text.specs.declared.refusal.Refusal.TheVariants as refusals
use Rattle.log_codec.specs.declared.command.Command.{Command}
use Rattle.log_codec.specs.declared.command.Command.TheVariants.{AddB, EvictB}
use Rattle.verifier_cache.specs.declared.entry.Entry.{Entry}
use Rattle.verifier_cache.specs.declared.entry.Hold.TheVariants.{B}
use Rattle.verifier_cache.specs.Entry.{has_kid, new_entry}
use Rattle.verifier_cache.specs.Cache.{entry_of, without}
use Rattle.verifier_commands.specs.declared.state.State.{State}
use Rattle.verifier_commands.specs.State.{at_clock}
use Rattle.verifier_commands.specs.Change.{Change, did_add_b, did_evict_b}
use Rattle.verifier_commands.specs.Changes.{is_by_stamp}
use Rattle.verifier_commands.specs.Transition.{Rules, transition, is_root, is_full, timed, evicted_as}
use Rattle.host_plan.specs.Moments.{taking, renewing}
use Rattle.host_plan.specs.Visit.{between}
use Rattle.host_laws.specs.Running.{Told, run}
use Rattle.host_laws.specs.Served.{IsBare}
use Rattle.host_laws.proofs.DepthLaws.{not_root, deeper-prefix}
use Rattle.host_laws.proofs.MomentLaws.{received-taken, sent-given, received-ended, sent-ended}
use Rattle.host_laws.proofs.StepLemmas.{test-passed, need-there, timed-there}
use Rattle.host_laws.proofs.RunLaws.{run-one, run-step, run-append, run-refused, run-step_refused, run-append_refused}
use Rattle.host_laws.proofs.StandingLemmas.{entry_of-last, without-last}
use Rattle.host_laws.proofs.WorksLaws.{IsClear, standing, Works}

-- ---- a verifier at rest

-- a path to which bits lead is none of the roots
root_apart : (k root : List Bool) → 0 < depth k → is_root root ≡ true → same_path k root ≡ false
root_apart k root some is =
    same_path-apart k root (λ same. false≢true (sym (not_root k some) ∙ (ap (λ (path : List Bool). is_root path) same ∙ is)))

-- nothing stands in its cache below the root
pub clear-bare : (entries : List Entry) (path : List Bool) → IsBare entries → 0 < depth path → IsClear path entries
clear-bare entries path (inl is) some k begins = ap (λ (xs : List Entry). entry_of k xs) is
clear-bare entries path (inr root) some k begins =
    ap (λ (xs : List Entry). entry_of k xs) root.2
    ∙ ap (λ (b : Bool). if b then Some root.0 else None) (root_apart k root.0.path (deeper-prefix path k some begins) root.1)

-- and at most that stands there
pub length-bare : (entries : List Entry) → IsBare entries → length entries ≤ 1
length-bare entries (inl is) = omega (arith, ap (λ (xs : List Entry). length xs) is)
length-bare entries (inr root) = omega (arith, ap (λ (xs : List Entry). length xs) root.2)

-- ---- taking in and handing out

-- what was done to an element that was taken in and handed out again, with what was done in between
abbrev pub told_between : Rules → Element → Value → Reading → Told → Told
told_between rules element new clock told =
    ((taking clock element.stamp).at, did_add_b (new_entry element.path element.value B) element)
    ∷ (told ++ ((renewing clock element.stamp).at, did_evict_b (new_entry element.path new B) (evicted_as rules.number (new_entry element.path new B) (renewing clock element.stamp).at)) ∷ [])

-- an element is taken in
comes_in : (rules : Rules) (state : State) (element : Element) → is_root element.path ≡ false → IsClear element.path state.cache.entries
    → suc (length state.cache.entries) ≤ state.cache.room → element.verifier < rules.verifiers
    → (answer : Result (Change × State) Refusal)
    → timed (received state.clock element.stamp) (λ clock. Ok (
      did_add_b (new_entry element.path element.value B) element,
      standing state.cache.entries state.cache.room clock (new_entry element.path element.value B),
    )) ≡ answer
    → transition rules state (AddB element.path element.value element.stamp element.verifier) ≡ answer
comes_in rules state element apart clear roomy known answer is =
    test-passed (is_root element.path) refusals.IsRoot _ _ apart
    (test-passed (is_some (entry_of element.path state.cache.entries)) refusals.AlreadyCached _ _
    (ap (λ (o : Option Entry). is_some o) (clear element.path (is_prefix-self element.path)))
    (test-passed (is_full state) refusals.CacheFull _ _ (grind (arith, nat_tests))
    (test-passed (nat_le rules.verifiers element.verifier) refusals.NoSuchVerifier _ _ (grind (arith, nat_tests)) is)))

-- Commands that work behind an element's path run between its add and its evict.
pub between_runs : (rules : Rules) (state : State) (element : Element) (more : ℕ) (inner : List Command) (told : Told) (new : Value)
    → is_root element.path ≡ false → IsClear element.path state.cache.entries → suc (length state.cache.entries + more) ≤ state.cache.room
    → element.verifier < rules.verifiers → is_open state.clock element.stamp.epoch ≡ true
    → (renewing state.clock element.stamp).at.counter ≤ state.clock.end
    → Works rules more element.path B element.value (taking state.clock element.stamp) inner told new (taking state.clock element.stamp)
    → run rules state (between element (renewing state.clock element.stamp).at inner)
    ≡ Ok (told_between rules element new state.clock told, record state { clock = renewing state.clock element.stamp })
between_runs rules state element more inner told new apart clear roomy known is_taken within works =
    run-step rules state (AddB element.path element.value element.stamp element.verifier) _ _ (standing entries room taken before) _ _ added
    (run-append rules _ inner (EvictB element.path later.at ∷ []) told _ (standing entries room taken after) _ (works entries room clear roomy)
    (run-one rules _ (EvictB element.path later.at) _ (record state { clock = later }) evicted))
  where
    entries : List Entry
    entries = state.cache.entries

    room : ℕ
    room = state.cache.room

    taken : Reading
    taken = taking state.clock element.stamp

    later : Reading
    later = renewing state.clock element.stamp

    before : Entry
    before = new_entry element.path element.value B

    after : Entry
    after = new_entry element.path new B

    nothing : entry_of element.path entries ≡ None
    nothing = clear element.path (is_prefix-self element.path)

    added : transition rules state (AddB element.path element.value element.stamp element.verifier)
        ≡ Ok (did_add_b before element, standing entries room taken before)
    added =
        comes_in rules state element apart clear (omega arith) known _
        (timed-there (received state.clock element.stamp) _ _ taken (received-taken state.clock element.stamp is_taken (omega arith)) refl)

    evicted : transition rules (standing entries room taken after) (EvictB element.path later.at)
        ≡ Ok (did_evict_b after (evicted_as rules.number after later.at), record state { clock = later })
    evicted =
        test-passed (is_root element.path) refusals.IsRoot _ _ apart
        (need-there (entry_of element.path (entries ++ after ∷ [])) refusals.NotCached _ _ after (entry_of-last entries after nothing)
        (test-passed (has_kid after) refusals.HasChild _ _ refl
        (test-passed (not (is_by_stamp B)) refusals.WrongHold _ _ refl
        (timed-there (sent taken later.at) _ _ later (sent-given taken within)
        (ap (λ (xs : List Entry). Ok (did_evict_b after (evicted_as rules.number after later.at), at_clock (standing entries room taken after) xs later))
        (without-last entries after nothing))))))

-- Where the two counters pass the end, the add or the evict is refused for that.
pub between_ends : (rules : Rules) (state : State) (element : Element) (more : ℕ) (inner : List Command) (told : Told) (new : Value)
    → is_root element.path ≡ false → IsClear element.path state.cache.entries → suc (length state.cache.entries + more) ≤ state.cache.room
    → element.verifier < rules.verifiers → is_open state.clock element.stamp.epoch ≡ true
    → state.clock.end < (renewing state.clock element.stamp).at.counter
    → Works rules more element.path B element.value (taking state.clock element.stamp) inner told new (taking state.clock element.stamp)
    → run rules state (between element (renewing state.clock element.stamp).at inner) ≡ Err refusals.ClockEnd
between_ends rules state element more inner told new apart clear roomy known is_taken past works = go (nat_le taken.at.counter state.clock.end) refl
  where
    entries : List Entry
    entries = state.cache.entries

    room : ℕ
    room = state.cache.room

    taken : Reading
    taken = taking state.clock element.stamp

    later : Reading
    later = renewing state.clock element.stamp

    before : Entry
    before = new_entry element.path element.value B

    after : Entry
    after = new_entry element.path new B

    nothing : entry_of element.path entries ≡ None
    nothing = clear element.path (is_prefix-self element.path)

    evicted : transition rules (standing entries room taken after) (EvictB element.path later.at) ≡ Err refusals.ClockEnd
    evicted =
        test-passed (is_root element.path) refusals.IsRoot _ _ apart
        (need-there (entry_of element.path (entries ++ after ∷ [])) refusals.NotCached _ _ after (entry_of-last entries after nothing)
        (test-passed (has_kid after) refusals.HasChild _ _ refl
        (test-passed (not (is_by_stamp B)) refusals.WrongHold _ _ refl
        (ap (λ (r : Result Reading ClockFault). timed r (λ clock. Ok (did_evict_b after (evicted_as rules.number after later.at), at_clock (standing entries room taken after) (without element.path (entries ++ after ∷ [])) clock)))
        (sent-ended taken past)))))

    go : (b : Bool) → nat_le taken.at.counter state.clock.end ≡ b → run rules state (between element later.at inner) ≡ Err refusals.ClockEnd
    go true within =
        run-step_refused rules state (AddB element.path element.value element.stamp element.verifier) _ _ (standing entries room taken before) refusals.ClockEnd
        (comes_in rules state element apart clear (omega arith) known _
        (ap (λ (r : Result Reading ClockFault). timed r (λ clock. Ok (did_add_b before element, standing entries room clock before)))
        (received-taken state.clock element.stamp is_taken (grind (arith, nat_tests)))))
        (run-append_refused rules (standing entries room taken before) (standing entries room taken after) inner _ told refusals.ClockEnd (works entries room clear roomy)
        (run-refused rules (standing entries room taken after) (EvictB element.path later.at) [] refusals.ClockEnd evicted))
    go false over =
        run-refused rules state (AddB element.path element.value element.stamp element.verifier) _ refusals.ClockEnd
        (comes_in rules state element apart clear (omega arith) known _
        (ap (λ (r : Result Reading ClockFault). timed r (λ clock. Ok (did_add_b before element, standing entries room clock before)))
        (received-ended state.clock element.stamp is_taken (grind (arith, nat_tests)))))
