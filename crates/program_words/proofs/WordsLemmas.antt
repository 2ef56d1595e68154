-- From what clap promises of a parse to what the words ask for.
use Rattle.std.proofs.Common.{◌≡◌, Bool, ◌||◌, false, List, true, [], ◌∷◌, Option, Some, None, option_and_then, inl, inr, refl, sym, ◌∙◌, ap, subst}
use Rattle.std.specs.Prelude.{IfOk, Result, Ok, Err, ok_or}
use Rattle.clap.specs.Walk.{Text}
use Rattle.clap.specs.Words.{AddsArg, App, HasKind, HasMatchesOf, Kinds, fault_of, is_simple, is_simple_and_free, kind_of, subcommand_of, subcommand_rows_of}
use Rattle.clap.specs.declared.builder.arg.Arg.{Arg}
use Rattle.clap.specs.declared.builder.command.Command.{Command}
use Rattle.clap.specs.declared.builder.command.Command.TheViews.{out-Command as fields_of}
use Rattle.clap.specs.declared.error.Error.{Error}
use Rattle.clap.specs.declared.error.kind.ErrorKind.TheVariants as kind
use Rattle.clap.specs.declared.parser.matches.ArgMatches.{ArgMatches}
use Rattle.program_words.specs.CommandLine.{fastver_app}
use Rattle.program_words.specs.Words.{asked_by, asked_of, unless_fault}
use Rattle.program_words.specs.declared.words.Asked.{Asked}
use Rattle.program_words.specs.declared.words.WordsFault.{WordsFault}

-- where a parse took the words, they ask for what its matches ask for
pub asked_where_taken : (app : App) (words : List Text) (m : ArgMatches) (a : Option Asked) → app ≡ fastver_app
    → (is_simple_and_free app ≡ true → fault_of app words ≡ []) → HasMatchesOf app words m
    → a ≡ option_and_then asked_by (subcommand_rows_of m) → asked_of words ≡ a
asked_where_taken app words m a is free has value =
    let none : fault_of fastver_app words ≡ [] = ap (λ (x : App). fault_of x words) (sym is) ∙ free (ap is_simple_and_free is) in
    let rows : subcommand_rows_of m ≡ subcommand_of fastver_app words = (has (ap is_simple is)).1 ∙ ap (λ (x : App). subcommand_of x words) is in
    ap (λ (faults : Kinds). unless_fault faults (option_and_then asked_by (subcommand_of fastver_app words))) none
    ∙ (ap (option_and_then asked_by) (sym rows) ∙ sym value)

faulty : {X : Type 0} (faults : Kinds) (e : Error) (answer : Option X) → HasKind faults e → (kind_of e ≡ kind.OutOfMemory → ⊥) → unless_fault faults answer ≡ None
faulty [] e answer (inl memory) other = absurd (other memory)
faulty [] e answer (inr among) other = absurd among
faulty (fault ∷ more) e answer has other = refl

-- where a parse refused the words, and not for want of memory, they ask for nothing
pub nothing_where_refused : (app : App) (words : List Text) (e : Error) → app ≡ fastver_app
    → (is_simple_and_free app ≡ true → HasKind (fault_of app words) e) → (kind_of e ≡ kind.OutOfMemory → ⊥) → asked_of words ≡ None
nothing_where_refused app words e is has other =
    ap (λ (x : App). unless_fault (fault_of x words) (option_and_then asked_by (subcommand_of fastver_app words))) (sym is)
    ∙ faulty (fault_of app words) e (option_and_then asked_by (subcommand_of fastver_app words)) (has (ap is_simple_and_free is)) other

-- what the words ask for is what was answered
pub asked_if_ok : (answer : Result Asked WordsFault) (a wanted : Option Asked) (fault : WordsFault) → answer ≡ ok_or a fault → wanted ≡ a → IfOk answer (λ asked. wanted ≡ Some asked)
asked_if_ok answer a wanted fault is same = subst (λ (r : Result Asked WordsFault). IfOk r (λ asked. wanted ≡ Some asked)) (sym is) (go a same)
  where
    go : (o : Option Asked) → wanted ≡ o → IfOk (ok_or o fault) (λ asked. wanted ≡ Some asked)
    go None e = tt
    go (Some asked) e = e

-- where a fault was answered, they ask for nothing
pub none_if_refused : (answer : Result Asked WordsFault) (a wanted : Option Asked) (fault given : WordsFault) → answer ≡ ok_or a fault → wanted ≡ a → answer ≡ Err given → wanted ≡ None
none_if_refused answer a wanted fault given is same refused = same ∙ go a (sym is ∙ refused)
  where
    go : (o : Option Asked) → ok_or o fault ≡ Err given → o ≡ None
    go None e = refl
    go (Some asked) e = absurd (cc)

abbrev fault_in : WordsFault → Result Asked WordsFault → WordsFault
fault_in other (Ok asked) = other
fault_in other (Err fault) = fault

-- equal answers have equal faults
pub same_fault : (one other : WordsFault) → ◌≡◌ {A = Result Asked WordsFault} (Err one) (Err other) → one ≡ other
same_fault one other e = ap (fault_in one) e

-- a command with an option more has a global one only where it had one
pub local_with : {E : Type 0} (made : Result Command E) (old : Command) (arg : Arg) → arg.global ≡ false → IfOk made (λ command. AddsArg old arg command)
    → IfOk made (λ command. (fields_of old).has_globals ≡ false → (fields_of command).has_globals ≡ false)
local_with (Ok command) old arg local adds = λ had. adds.globals ∙ ap (λ (had' : Bool). had' || arg.global) had ∙ local
local_with (Err e) old arg local adds = tt
