use Rattle.std.proofs.Common.{List, [], ◌∷◌, ◌++◌, ap, ◌∙◌, refl, arith}
use Rattle.std.proofs.lemmas.List.{take_more_set}
use Rattle.command_window.specs.declared.read_command.ReadCommand.{ReadCommand}
use Rattle.command_window.proofs.commands.Commands.read_next.Goals as goal

pub returns-clause-read : goal.returns-clause-read
returns-clause-read c =
    let read : ReadCommand = record { command = c.read_command_into.new.place; len = c.in-Ok.len } in
    let added = take_more_set c.self.inside.places.items c.self.inside.count read
    (omega (arith, c.self.invariant, c.if-self-len.false, c.len.ensures, c.self.inside.places.ok.0)) in (
      read,
      refl,
      record {
        kind = c.in-Ok.ensures.kind;
        text = c.in-Ok.ensures.found;
        some = c.in-Ok.ensures.some;
        within = c.in-Ok.ensures.within;
      },
      added ∙ ap (λ (reads : List ReadCommand). reads ++ read ∷ []) c.self.view_is,
    )
