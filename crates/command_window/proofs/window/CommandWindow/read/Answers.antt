use Rattle.std.proofs.Common.{List, subst, sym, ap, ◌∙◌}
use Rattle.std.proofs.lemmas.List.{with_items_is}
use Rattle.command_window.specs.Window.{Window, AreRight}
use Rattle.command_window.specs.declared.read_command.Asked.{Asked}
use Rattle.command_window.proofs.window.CommandWindow.read.Goals as goal

pub returns-clause-right : goal.returns-clause-right
returns-clause-right g c =
    let functions = g.D.Digests.functions c.args.d.now in
    let later = c.hash_all.new.asked in
    let before = sym (c.as_mut_slice.ensures.value ∙ ap (λ (window : Window). window.asked) c.self.view_is) in
    subst (λ (asked : List Asked). AreRight functions asked) (sym (with_items_is c.self.inside.asked later (c.hash_all.ensures.goes_on.count ∙ c.as_mut_slice.ensures.len)))
    (c.hash_all.ensures.goes_on.right (subst (λ (asked : List Asked). AreRight functions asked) before (c.read_ahead.ensures.right functions)))
