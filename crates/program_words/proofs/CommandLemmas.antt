-- What a command is once options and commands were added to it.
use Rattle.std.proofs.Common.{◌≡◌, true, false, ◌∙◌, ap, codes}
use Rattle.std.specs.Prelude.{IfOk, Result, Ok, Err}
use Rattle.clap.specs.Words.{App, app_of, shape_of, with_subcommand}
use Rattle.clap.specs.declared.builder.command.Command.{Command}
use Rattle.clap.specs.declared.builder.command.Command.TheViews.{out-Command as fields_of}
use Rattle.program_words.specs.CommandLine.{AddsMade, command_with_key, gen_app, with_host_options, with_option}

-- with the options of a host, one by one
pub host_options : {E : Type 0} (made : Result Command E) (bare one two three four five : Command)
    → app_of one ≡ with_option (app_of bare) (codes "verifiers") true → app_of two ≡ with_option (app_of one) (codes "shards") true
    → app_of three ≡ with_option (app_of two) (codes "hot") false → app_of four ≡ with_option (app_of three) (codes "logs") false
    → app_of five ≡ with_option (app_of four) (codes "first") false → IfOk made (λ command. app_of command ≡ with_option (app_of five) (codes "counter") false)
    → IfOk made (λ command. app_of command ≡ with_host_options (app_of bare))
host_options (Ok command) bare one two three four five first second third fourth fifth last =
    last ∙ ap (λ (a : App). with_option a (codes "counter") false) (fifth ∙ ap (λ (a : App). with_option a (codes "first") false) (fourth
    ∙ ap (λ (a : App). with_option a (codes "logs") false) (third ∙ ap (λ (a : App). with_option a (codes "hot") false) (second
    ∙ ap (λ (a : App). with_option a (codes "shards") true) first))))
host_options (Err e) bare one two three four five first second third fourth fifth last = tt

-- with the options of a load, one by one, and behind them those of a host
pub load_options : {E : Type 0} (made : Result Command E) (bare one two three four : Command) → app_of bare ≡ command_with_key (codes "gen")
    → app_of one ≡ with_option (app_of bare) (codes "seed") true → app_of two ≡ with_option (app_of one) (codes "ops") true
    → app_of three ≡ with_option (app_of two) (codes "keys") false → app_of four ≡ with_option (app_of three) (codes "every") false
    → IfOk made (λ command. app_of command ≡ with_host_options (app_of four)) → IfOk made (λ command. app_of command ≡ gen_app)
load_options (Ok command) bare one two three four is first second third fourth last =
    last ∙ ap with_host_options (fourth ∙ ap (λ (a : App). with_option a (codes "every") false) (third ∙ ap (λ (a : App). with_option a (codes "keys") false) (second
    ∙ ap (λ (a : App). with_option a (codes "ops") true) (first ∙ ap (λ (a : App). with_option a (codes "seed") true) is))))
load_options (Err e) bare one two three four is first second third fourth last = tt

-- no argument is global where none was
pub stays_local : {E : Type 0} (made : Result Command E) (bare last : Command)
    → ((fields_of bare).has_globals ≡ false → (fields_of last).has_globals ≡ false)
    → IfOk made (λ command. (fields_of last).has_globals ≡ false → (fields_of command).has_globals ≡ false)
    → IfOk made (λ command. (fields_of bare).has_globals ≡ false → (fields_of command).has_globals ≡ false)
stays_local (Ok command) bare last before behind = λ local. behind (before local)
stays_local (Err e) bare last before behind = tt

-- no argument is global behind a command that has none
pub local_behind : {E : Type 0} (made : Result Command E) (last : Command) → (fields_of last).has_globals ≡ false
    → IfOk made (λ command. (fields_of last).has_globals ≡ false → (fields_of command).has_globals ≡ false) → IfOk made (λ command. (fields_of command).has_globals ≡ false)
local_behind (Ok command) last local behind = behind local
local_behind (Err e) last local behind = tt

-- a command with one more below it
pub added : {E : Type 0} (made : Result Command E) (old new : Command) (a s : App) → AddsMade old made new
    → IfOk made (λ command. (fields_of command).has_globals ≡ false) → IfOk made (λ command. app_of command ≡ s) → app_of old ≡ a
    → app_of new ≡ with_subcommand a s.top
added (Ok sub) old new a s adds local is was =
    adds.shape local ∙ (ap (λ (x : App). with_subcommand x (shape_of sub)) was ∙ ap (λ (x : App). with_subcommand a x.top) is)
added (Err e) old new a s adds local is was = absurd adds

pub added_if_ok : {E F : Type 0} (answer : Result Command E) (made : Result Command F) (old : Command) (a s : App) → IfOk answer (AddsMade old made)
    → IfOk made (λ command. (fields_of command).has_globals ≡ false) → IfOk made (λ command. app_of command ≡ s) → app_of old ≡ a
    → IfOk answer (λ command. app_of command ≡ with_subcommand a s.top)
added_if_ok (Ok new) made old a s adds local is was = added made old new a s adds local is was
added_if_ok (Err e) made old a s adds local is was = tt
