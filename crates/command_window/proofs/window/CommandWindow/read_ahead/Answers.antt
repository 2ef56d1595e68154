use Rattle.std.proofs.Common.{◌≡◌, sym, ap, ◌∙◌, subst, ℕ, suc, List, [], ◌∷◌, ◌++◌, ◌+◌, ◌≤◌, length, take, drop, slice_set, length-drop, length-append, arith}
use Rattle.std.specs.Vec.{with_items}
use Rattle.std.proofs.lemmas.List.{with_items_is}
use Rattle.record_text.specs.Format.{format_of}
use Rattle.command_window.specs.declared.read_command.ReadCommand.{ReadCommand}
use Rattle.command_window.specs.declared.read_command.Asked.{Asked}
use Rattle.command_window.specs.Window.{IsReadOf, AreReadOf, AreRight, AreForgotten}
use Rattle.command_window.proofs.ReadLemmas.{read-more, taken-more, taken_by}
use Rattle.command_window.proofs.GoesOnLemmas.{right-forgotten, right-asked, forgotten-behind}
use Rattle.command_window.proofs.window.CommandWindow.read_ahead.Goals as goal

pub loop-self-init : goal.loop-self-init
loop-self-init c =
    let later = c.forget_all.new.asked in
    let is = with_items_is c.self.inside.asked later (c.forget_all.ensures.len ∙ c.as_mut_slice.ensures.len) in
    record {
      read = subst (λ (reads : List ReadCommand). AreReadOf (format_of c.args.header.now) c.args.bytes.now reads) (sym c.clear.ensures.none) tt;
      right = λ functions. subst (λ (asked : List Asked). AreRight functions asked) (sym is) (right-forgotten functions later c.forget_all.ensures.forgotten);
      forgotten =
          subst (λ (reads : List ReadCommand). AreForgotten (drop (length reads) (with_items c.self.inside.asked later).items)) (sym c.clear.ensures.none)
          (subst (λ (asked : List Asked). AreForgotten asked) (sym is) c.forget_all.ensures.forgotten);
      taken = ap taken_by (sym c.clear.ensures.none);
      within = omega arith;
    }

pub loop-self-preserved : goal.loop-self-preserved
loop-self-preserved c =
    let old = c.loop-self.self-inside.reads in
    let asked = c.loop-self.self-inside.asked.items in
    let read = c.in-Some.ensures.read.0 in
    let len = c.in-Some.ensures.read.1 in
    let is_read = c.in-Some.ensures.read.2 in
    let more = c.in-Some.ensures.read.3 in
    let left = ap length c.behind.ensures.value ∙ length-drop c.loop-self.taken c.args.bytes.now in
    let place : length c.read_next.new.self ≡ suc c.len-place.result =
    ap length more ∙ (length-append old (read ∷ []) ∙ omega (arith, c.len-place.ensures.value)) in
    record {
      read = subst (λ (reads : List ReadCommand). AreReadOf (format_of c.args.header.now) c.args.bytes.now reads) (sym more)
          (read-more (format_of c.args.header.now) c.args.bytes.now old read c.loop-self.invariant.read
          (subst (λ (n : ℕ). IsReadOf (format_of c.args.header.now) (drop n c.args.bytes.now) read) c.loop-self.invariant.taken
          (subst (λ (bytes : List ℕ). IsReadOf (format_of c.args.header.now) bytes read) c.behind.ensures.value is_read)));
      right = λ functions. right-asked functions asked c.len-place.result c.ask.new.asked (c.loop-self.invariant.right functions) c.ask.ensures.unknown;
      forgotten =
          subst (λ (n : ℕ). AreForgotten (drop n (slice_set asked c.len-place.result c.ask.new.asked))) (sym place)
          (forgotten-behind asked c.len-place.result c.ask.new.asked (subst (λ (n : ℕ). AreForgotten (drop n asked)) (sym c.len-place.ensures.value) c.loop-self.invariant.forgotten));
      taken = ap (λ (n : ℕ). n + c.in-Some.len) c.loop-self.invariant.taken
          ∙ (ap (λ (n : ℕ). taken_by old + n) (sym len) ∙ (sym (taken-more old read) ∙ ap taken_by (sym more)));
      within = omega (arith, left, len, is_read.within, c.loop-self.invariant.within);
    }
