use Rattle.std.proofs.Common.{ℕ, List, [], ◌++◌, Option, ◌∙◌, sym, ap, subst, append_assoc, append-nil, arith}
use Rattle.std.specs.List.{flat_map}
use Rattle.report_text.specs.Page.{Passes}
use Rattle.report_text.proofs.PassLaws.{Passes-start, Passes-then, Passes-stop, on_err}
use Rattle.follower.proofs.KeyLemmas.{entry_line, map_text-entries}
use Rattle.follower.proofs.followed.write_entries.Goals as goal

pub loop-key-init : goal.loop-key-init
loop-key-init g c = record {
  text = [];
  passes = Passes-start _ _;
  left = ap (flat_map entry_line) (c.into_iter-key-iterator.ensures.into_iter_gives ∙ c.entries-key-items.ensures.list);
  faults = omega arith;
}

pub loop-key-preserved : goal.loop-key-preserved
loop-key-preserved g c =
    let inv = c.loop-key.invariant in
    record {
      text = inv.text ++ c.as_slice.result.now;
      passes = Passes-then _ _ _ _ _ _ _ _ inv.passes c.in_ok-write.ensures.whole;
      left =
          append_assoc inv.text c.as_slice.result.now (flat_map entry_line c.next.new.self)
          ∙ ap (λ (line : List ℕ). inv.text ++ (line ++ flat_map entry_line c.next.new.self)) (c.as_slice.ensures.value ∙ c.key_line.ensures.text)
          ∙ ap (λ (entries : List (ℕ × Option (List ℕ))). inv.text ++ flat_map entry_line entries) (sym c.in-Some.ensures.steps)
          ∙ inv.left;
      faults = omega (arith, inv.faults, c.in_ok-write.ensures.counts.never_falls);
    }

pub returns-in_err-write-clause-front : goal.returns-in_err-write-clause-front
returns-in_err-write-clause-front g c =
    let inv = c.loop-key.invariant in
    on_err _
    (Passes-stop _ _ _ _ _ inv.text (flat_map entry_line c.loop-key.key-iterator) _ inv.passes c.in_err-write.ensures.front
    (inv.left ∙ sym (map_text-entries c.args.map.now c.entries-key-items.ensures.rising c.entries-key-items.ensures.valued)))

pub returns-clause-whole : goal.returns-clause-whole
returns-clause-whole g c =
    let inv = c.loop-key.invariant in
    subst (λ (text : List ℕ). Passes (g.O.Sink.held c.args.out.now) c.args.page.now text (g.O.Sink.held c.loop-key.out) c.loop-key.page)
    (sym (append-nil inv.text)
    ∙ ap (λ (entries : List (ℕ × Option (List ℕ))). inv.text ++ flat_map entry_line entries) (sym c.in-None.ensures.steps.0)
    ∙ inv.left
    ∙ sym (map_text-entries c.args.map.now c.entries-key-items.ensures.rising c.entries-key-items.ensures.valued))
    inv.passes
